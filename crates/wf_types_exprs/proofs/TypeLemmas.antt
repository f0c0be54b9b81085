-- What is found at a type after its parts, and what type it is.
use Rattle.std.proofs.Common.{◌≡◌, ◌∙◌, refl, sym, ap, ℕ, zero, suc, ◌-◌, ◌<◌, ◌≤◌, List, [], ◌∷◌, ◌++◌, length, drop, slice_index_or, Option, Some, None, option_map, arith, drop-cons}
use Rattle.wf_text.specs.declared.place.Place.{Place}
use Rattle.wf_text.specs.declared.rules.Refusal.{Refusal}
use Rattle.wf_ast.specs.declared.parsed.Prefix.{Prefix}
use Rattle.wf_ast.specs.declared.types.Ty.TheVariants as types
use Rattle.wf_named.specs.declared.nodes.BaseType.{BaseType}
use Rattle.wf_named.specs.declared.nodes.BaseType.TheVariants as bases
use Rattle.wf_named.specs.NamedTree.{NamedExprTree, NamedPartTree, absent, present, NamedTypeTree, slice_of, array_of, base_type, refined}
use Rattle.wf_named.specs.NamedTrees.{prefixed, all_prefixed}
use Rattle.wf_types_rules.specs.declared.meanings.Bound.{Bound}
use Rattle.wf_types_rules.specs.declared.settings.Form.TheVariants as forms
use Rattle.wf_types_rules.specs.declared.settings.Role.{Role}
use Rattle.wf_types_rules.specs.declared.settings.Role.TheVariants as roles
use Rattle.wf_types_rules.specs.declared.settings.Setting.{Setting}
use Rattle.wf_types_rules.specs.ExprTypes.{plain_width, array_type, written}
use Rattle.wf_types_rules.specs.DeclaredTypes.{first_token}
use Rattle.wf_types_rules.specs.Judgements.{bound_of, low_bound, form, with_elements}
use Rattle.wf_types_rules.specs.Parts.{placed_type, type_part, expr_parts, end_parts, type_parts}
use Rattle.wf_types_exprs.specs.declared.found.WrittenType.{WrittenType}
use Rattle.wf_types_exprs.specs.Judged.{judged, TellsType}
use Rattle.wf_types_exprs.specs.Found.{slice_type_found, array_type_found, refined_found, refined_base, refined_base_form, placed_found}
use Rattle.wf_types_exprs.proofs.JudgedLaws.{judged-append, judged-last, judged-turned}

-- A type at its place.
placed_same : (s : Setting) (found : Option Refusal) (role : Role) (t : NamedTypeTree)
    → placed_found role (written s t) (form s t) (plain_width t) (first_token t) found ≡ judged s found (placed_type role t ∷ [])
unfolding judged
placed_same s found roles.Const t = refl
placed_same s found roles.Field t = refl
placed_same s found roles.Arg t = refl
placed_same s found roles.Local t = refl
placed_same s found (roles.Result mark) t = refl
placed_same s found roles.Conversion t = refl

pub placed_judged : (s : Setting) (before found : Option Refusal) (role : Role) (t : NamedTypeTree) (w : WrittenType) → TellsType s before found t w
    → placed_found role w.of w.kind w.plain w.at found ≡ judged s found (placed_type role t ∷ [])
placed_judged s before found role t w h = rw (h.of, h.kind, h.plain, h.at) (placed_same s found role t)

pub declared_found : (s : Setting) (before found : Option Refusal) (role : Role) (t : NamedTypeTree) (w : WrittenType) → TellsType s before found t w
    → placed_found role w.of w.kind w.plain w.at found ≡ judged s before (placed_type role t ∷ type_parts t)
declared_found s before found role t w h =
    placed_judged s before found role t w h ∙ ap (λ f. judged s f (placed_type role t ∷ [])) h.found ∙ judged-last s before (placed_type role t) (type_parts t)

-- The same after an operand.
pub converted_found : (s : Setting) (before mid found : Option Refusal) (e : NamedExprTree) (t : NamedTypeTree) (w : WrittenType) → mid ≡ judged s before (expr_parts e) → TellsType s mid found t w
    → placed_found roles.Conversion w.of w.kind w.plain w.at found ≡ judged s before (placed_type roles.Conversion t ∷ (expr_parts e ++ type_parts t))
converted_found s before mid found e t w h k =
    placed_judged s mid found roles.Conversion t w k
    ∙ ap (λ f. judged s f (placed_type roles.Conversion t ∷ [])) (k.found ∙ ap (λ f. judged s f (type_parts t)) h ∙ sym (judged-append s before (expr_parts e) (type_parts t)))
    ∙ judged-last s before (placed_type roles.Conversion t) (expr_parts e ++ type_parts t)

-- Bounds.
refined_same : (s : Setting) (found : Option Refusal) (of : Option BaseType) (at : Place) (low : NamedPartTree) (high : NamedExprTree)
    → refined_found of (low_bound s low) (bound_of s high) at found ≡ judged s found (type_part (base_type of at (refined low high)) ∷ [])
unfolding judged
refined_same s found None at absent high = refl
refined_same s found None at (present e) high = refl
refined_same s found (Some (bases.Number width)) at absent high = refl
refined_same s found (Some (bases.Number width)) at (present e) high = refl
refined_same s found (Some bases.Flag) at absent high = refl
refined_same s found (Some bases.Flag) at (present e) high = refl
refined_same s found (Some bases.Status) at absent high = refl
refined_same s found (Some bases.Status) at (present e) high = refl
refined_same s found (Some bases.Reader) at absent high = refl
refined_same s found (Some bases.Reader) at (present e) high = refl
refined_same s found (Some bases.Writer) at absent high = refl
refined_same s found (Some bases.Writer) at (present e) high = refl

refined_written : (s : Setting) (of : Option BaseType) (at : Place) (low : NamedPartTree) (high : NamedExprTree)
    → refined_base of (low_bound s low) (bound_of s high) ≡ written s (base_type of at (refined low high))
refined_written s None at low high = refl
refined_written s (Some (bases.Number width)) at absent high = refl
refined_written s (Some (bases.Number width)) at (present e) high = refl
refined_written s (Some bases.Flag) at low high = refl
refined_written s (Some bases.Status) at low high = refl
refined_written s (Some bases.Reader) at low high = refl
refined_written s (Some bases.Writer) at low high = refl

refined_kind : (s : Setting) (of : Option BaseType) (at : Place) (low : NamedPartTree) (high : NamedExprTree)
    → refined_base_form of (low_bound s low) (bound_of s high) ≡ form s (base_type of at (refined low high))
refined_kind s None at low high = refl
refined_kind s (Some (bases.Number width)) at absent high = refl
refined_kind s (Some (bases.Number width)) at (present e) high = refl
refined_kind s (Some bases.Flag) at low high = refl
refined_kind s (Some bases.Status) at low high = refl
refined_kind s (Some bases.Reader) at low high = refl
refined_kind s (Some bases.Writer) at low high = refl

refined_plain : (of : Option BaseType) (at : Place) (low : NamedPartTree) (high : NamedExprTree) → None ≡ plain_width (base_type of at (refined low high))
refined_plain None at low high = refl
refined_plain (Some (bases.Number width)) at low high = refl
refined_plain (Some bases.Flag) at low high = refl
refined_plain (Some bases.Status) at low high = refl
refined_plain (Some bases.Reader) at low high = refl
refined_plain (Some bases.Writer) at low high = refl

pub refined_tells : (s : Setting) (before mid found : Option Refusal) (of : Option BaseType) (at : Place) (low : NamedPartTree) (high : NamedExprTree) (m : Option Bound) (n : Bound) (w : WrittenType)
    → found ≡ refined_found of m n at mid → w ≡ record { of = refined_base of m n; kind = refined_base_form of m n; plain = None; at = at } → m ≡ low_bound s low → n ≡ bound_of s high
    → mid ≡ judged s before (end_parts low ++ expr_parts high) → TellsType s before found (base_type of at (refined low high)) w
refined_tells s before mid found of at low high m n w told made first last e = rw (told, made, first, last) (record {
  found = refined_same s mid of at low high ∙ ap (λ f. judged s f (type_part (base_type of at (refined low high)) ∷ [])) e
      ∙ judged-last s before (type_part (base_type of at (refined low high))) (end_parts low ++ expr_parts high);
  of = refined_written s of at low high;
  kind = refined_kind s of at low high;
  plain = refined_plain of at low high;
  at = refl;
})

-- Prefixes.
slice_same : (s : Setting) (found : Option Refusal) (t : NamedTypeTree) (at : Place)
    → slice_type_found (form s t) (plain_width t) at found ≡ judged s found (type_part (slice_of at t) ∷ [])
unfolding judged
slice_same s found t at = refl

pub slice_tells : (s : Setting) (before mid found : Option Refusal) (t : NamedTypeTree) (at : Place) (w v : WrittenType) → TellsType s before mid t w → found ≡ slice_type_found w.kind w.plain at mid
    → v ≡ record { of = option_map types.Slice w.plain; kind = with_elements forms.Slice w.kind; plain = None; at = at } → TellsType s before found (slice_of at t) v
slice_tells s before mid found t at w v h told made = rw (told, made) (record {
  found = rw (h.kind, h.plain) (slice_same s mid t at) ∙ ap (λ f. judged s f (type_part (slice_of at t) ∷ [])) h.found ∙ judged-last s before (type_part (slice_of at t)) (type_parts t);
  of = ap (option_map types.Slice) h.plain;
  kind = ap (with_elements forms.Slice) h.kind;
  plain = refl;
  at = refl;
})

array_same : (s : Setting) (found : Option Refusal) (n : NamedExprTree) (t : NamedTypeTree) (at : Place)
    → array_type_found (bound_of s n) (written s t) (form s t) (first_token t) at found ≡ judged s found (type_part (array_of n at t) ∷ [])
unfolding judged
array_same s found n t at = refl

pub array_tells : (s : Setting) (before mid counted found : Option Refusal) (n : NamedExprTree) (t : NamedTypeTree) (at : Place) (count : Bound) (w v : WrittenType) → TellsType s before mid t w
    → found ≡ array_type_found count w.of w.kind w.at at counted → v ≡ record { of = array_type count.number w.of; kind = with_elements forms.Array w.kind; plain = None; at = at } → count ≡ bound_of s n
    → counted ≡ judged s mid (expr_parts n) → TellsType s before found (array_of n at t) v
array_tells s before mid counted found n t at count w v h told made same e = rw (told, made, same) (record {
  found = rw (h.of, h.kind, h.at) (array_same s counted n t at)
      ∙ ap (λ f. judged s f (type_part (array_of n at t) ∷ [])) (e ∙ ap (λ f. judged s f (expr_parts n)) h.found ∙ judged-turned s before (expr_parts n) (type_parts t))
      ∙ judged-last s before (type_part (array_of n at t)) (expr_parts n ++ type_parts t);
  of = ap (array_type (bound_of s n).number) h.of;
  kind = ap (with_elements forms.Array) h.kind;
  plain = refl;
  at = refl;
})

-- One more prefix, from the last to the first.
pub prefix_next : (s : Setting) (ts : List NamedExprTree) (ps : List Prefix) (left : ℕ) (d : Prefix) (before found : Option Refusal) (t : NamedTypeTree) (w : WrittenType) → 0 < left → left ≤ length ps
    → TellsType s before found (prefixed ts (slice_index_or ps (left - 1) d) (all_prefixed ts (drop left ps) t)) w → TellsType s before found (all_prefixed ts (drop (left - 1) ps) t) w
prefix_next s ts ps zero d before found t w some h k = absurd (omega (arith, some))
prefix_next s ts ps (suc i) d before found t w some h k =
    let e : suc i - 1 ≡ i = omega arith in
    let front : TellsType s before found (prefixed ts (slice_index_or ps i d) (all_prefixed ts (drop (suc i) ps) t)) w = rw e at k in
    rw (e, drop-cons ps i d (omega (arith, h))) front
