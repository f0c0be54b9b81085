-- That what is made of types is what the machine makes, and that what it names is there.
use Rattle.std.proofs.Common.{◌≡◌, true, ◌&&◌, if◌then◌else◌, List, [], ◌∷◌, refl}
use Rattle.c_text.specs.declared.nodes.CType.TheVariants as types
use Rattle.c_text.specs.CNodes.{Nodes}
use Rattle.c_read_grammar.specs.Values.{perform}
use Rattle.c_read_grammar.specs.declared.actions.Action.TheVariants as acts
use Rattle.c_read_grammar.specs.declared.actions.TypeAction.{TypeAction}
use Rattle.c_read_grammar.specs.declared.actions.TypeAction.TheVariants as does
use Rattle.c_read_nodes.specs.declared.values.SemanticValue.{SemanticValue}
use Rattle.c_read_nodes.specs.declared.values.SemanticValue.TheVariants as vals
use Rattle.c_read_nodes.specs.Making.{making}
use Rattle.c_read_nodes.specs.Seen.{seen_values, ValuesFit, ProductFits, made_with}
use Rattle.c_read_nodes.specs.Shapes.{fits, takes, meets, is_plain}

module _ (nodes : Nodes) where
  pub make_uint-made : (uint : _) (vs : List SemanticValue) → (if fits (takes (acts.Type (does.MakeUint uint))) vs && meets nodes (acts.Type (does.MakeUint uint)) vs then made_with nodes (making (acts.Type (does.MakeUint uint)) vs).product (seen_values nodes (making (acts.Type (does.MakeUint uint)) vs).vals) else []) ≡ perform (acts.Type (does.MakeUint uint)) (seen_values nodes vs)
  make_uint-made uint vs = refl

  pub make_uint-fit : (uint : _) (vs : List SemanticValue) → fits (takes (acts.Type (does.MakeUint uint))) vs ≡ true → meets nodes (acts.Type (does.MakeUint uint)) vs ≡ true → ValuesFit nodes vs → ProductFits nodes (making (acts.Type (does.MakeUint uint)) vs).vals (making (acts.Type (does.MakeUint uint)) vs).product × ValuesFit nodes (making (acts.Type (does.MakeUint uint)) vs).vals
  make_uint-fit uint vs f c h = (tt, h)

  pub make_uint_pointer-made : (vs : List SemanticValue) → (if fits (takes (acts.Type does.MakeUintPointer)) vs && meets nodes (acts.Type does.MakeUintPointer) vs then made_with nodes (making (acts.Type does.MakeUintPointer) vs).product (seen_values nodes (making (acts.Type does.MakeUintPointer) vs).vals) else []) ≡ perform (acts.Type does.MakeUintPointer) (seen_values nodes vs)
  make_uint_pointer-made (vals.Type (types.Uint uint) ∷ vs) = refl
  make_uint_pointer-made [] = refl
  make_uint_pointer-made (v ∷ vs) = refl

  pub make_uint_pointer-fit : (vs : List SemanticValue) → fits (takes (acts.Type does.MakeUintPointer)) vs ≡ true → meets nodes (acts.Type does.MakeUintPointer) vs ≡ true → ValuesFit nodes vs → ProductFits nodes (making (acts.Type does.MakeUintPointer) vs).vals (making (acts.Type does.MakeUintPointer) vs).product × ValuesFit nodes (making (acts.Type does.MakeUintPointer) vs).vals
  make_uint_pointer-fit (vals.Type (types.Uint uint) ∷ vs) f c h = (tt, h.1)
  make_uint_pointer-fit [] f c h = absurd (cc f)
  make_uint_pointer-fit (v ∷ vs) f c h = absurd (cc f)

  pub make_size-made : (vs : List SemanticValue) → (if fits (takes (acts.Type does.MakeSize)) vs && meets nodes (acts.Type does.MakeSize) vs then made_with nodes (making (acts.Type does.MakeSize) vs).product (seen_values nodes (making (acts.Type does.MakeSize) vs).vals) else []) ≡ perform (acts.Type does.MakeSize) (seen_values nodes vs)
  make_size-made vs = refl

  pub make_size-fit : (vs : List SemanticValue) → fits (takes (acts.Type does.MakeSize)) vs ≡ true → meets nodes (acts.Type does.MakeSize) vs ≡ true → ValuesFit nodes vs → ProductFits nodes (making (acts.Type does.MakeSize) vs).vals (making (acts.Type does.MakeSize) vs).product × ValuesFit nodes (making (acts.Type does.MakeSize) vs).vals
  make_size-fit vs f c h = (tt, h)

  pub make_bool-made : (vs : List SemanticValue) → (if fits (takes (acts.Type does.MakeBool)) vs && meets nodes (acts.Type does.MakeBool) vs then made_with nodes (making (acts.Type does.MakeBool) vs).product (seen_values nodes (making (acts.Type does.MakeBool) vs).vals) else []) ≡ perform (acts.Type does.MakeBool) (seen_values nodes vs)
  make_bool-made vs = refl

  pub make_bool-fit : (vs : List SemanticValue) → fits (takes (acts.Type does.MakeBool)) vs ≡ true → meets nodes (acts.Type does.MakeBool) vs ≡ true → ValuesFit nodes vs → ProductFits nodes (making (acts.Type does.MakeBool) vs).vals (making (acts.Type does.MakeBool) vs).product × ValuesFit nodes (making (acts.Type does.MakeBool) vs).vals
  make_bool-fit vs f c h = (tt, h)

  pub make_struct_pointer-made : (vs : List SemanticValue) → (if fits (takes (acts.Type does.MakeStructPointer)) vs && meets nodes (acts.Type does.MakeStructPointer) vs then made_with nodes (making (acts.Type does.MakeStructPointer) vs).product (seen_values nodes (making (acts.Type does.MakeStructPointer) vs).vals) else []) ≡ perform (acts.Type does.MakeStructPointer) (seen_values nodes vs)
  make_struct_pointer-made (vals.Name name ∷ vs) = refl
  make_struct_pointer-made [] = refl
  make_struct_pointer-made (v ∷ vs) = refl

  pub make_struct_pointer-fit : (vs : List SemanticValue) → fits (takes (acts.Type does.MakeStructPointer)) vs ≡ true → meets nodes (acts.Type does.MakeStructPointer) vs ≡ true → ValuesFit nodes vs → ProductFits nodes (making (acts.Type does.MakeStructPointer) vs).vals (making (acts.Type does.MakeStructPointer) vs).product × ValuesFit nodes (making (acts.Type does.MakeStructPointer) vs).vals
  make_struct_pointer-fit (vals.Name name ∷ vs) f c h = (h.0, h.1)
  make_struct_pointer-fit [] f c h = absurd (cc f)
  make_struct_pointer-fit (v ∷ vs) f c h = absurd (cc f)

  pub make_text-made : (vs : List SemanticValue) → (if fits (takes (acts.Type does.MakeText)) vs && meets nodes (acts.Type does.MakeText) vs then made_with nodes (making (acts.Type does.MakeText) vs).product (seen_values nodes (making (acts.Type does.MakeText) vs).vals) else []) ≡ perform (acts.Type does.MakeText) (seen_values nodes vs)
  make_text-made vs = refl

  pub make_text-fit : (vs : List SemanticValue) → fits (takes (acts.Type does.MakeText)) vs ≡ true → meets nodes (acts.Type does.MakeText) vs ≡ true → ValuesFit nodes vs → ProductFits nodes (making (acts.Type does.MakeText) vs).vals (making (acts.Type does.MakeText) vs).product × ValuesFit nodes (making (acts.Type does.MakeText) vs).vals
  make_text-fit vs f c h = (tt, h)

  pub type-made : (a : TypeAction) (vs : List SemanticValue) → is_plain (acts.Type a) ≡ true → (if fits (takes (acts.Type a)) vs && meets nodes (acts.Type a) vs then made_with nodes (making (acts.Type a) vs).product (seen_values nodes (making (acts.Type a) vs).vals) else []) ≡ perform (acts.Type a) (seen_values nodes vs)
  type-made (does.MakeUint uint) vs p = make_uint-made uint vs
  type-made does.MakeUintPointer vs p = make_uint_pointer-made vs
  type-made does.MakeSize vs p = make_size-made vs
  type-made does.MakeBool vs p = make_bool-made vs
  type-made does.MakeStructPointer vs p = make_struct_pointer-made vs
  type-made does.MakeText vs p = make_text-made vs

  pub type-fit : (a : TypeAction) (vs : List SemanticValue) → is_plain (acts.Type a) ≡ true → fits (takes (acts.Type a)) vs ≡ true → meets nodes (acts.Type a) vs ≡ true → ValuesFit nodes vs → ProductFits nodes (making (acts.Type a) vs).vals (making (acts.Type a) vs).product × ValuesFit nodes (making (acts.Type a) vs).vals
  type-fit (does.MakeUint uint) vs p f c h = make_uint-fit uint vs f c h
  type-fit does.MakeUintPointer vs p f c h = make_uint_pointer-fit vs f c h
  type-fit does.MakeSize vs p f c h = make_size-fit vs f c h
  type-fit does.MakeBool vs p f c h = make_bool-fit vs f c h
  type-fit does.MakeStructPointer vs p f c h = make_struct_pointer-fit vs f c h
  type-fit does.MakeText vs p f c h = make_text-fit vs f c h
