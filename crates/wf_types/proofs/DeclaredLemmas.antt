-- Lists of what is declared, item by item, and what a resolved package is made of.
use Rattle.std.proofs.Common.{◌≡◌, ◌∙◌, refl, sym, ap, subst, ℕ, ◌+◌, ◌<◌, List, [], ◌∷◌, ◌++◌, length, map, take, drop, get_or, slice_get, Option, Some}
use Rattle.std.proofs.lemmas.List.{append_assoc, at_drop_more, length-map, take_more, get_or-map}
use Rattle.std.proofs.lemmas.Option.{slice_get_within, get_or_from_slice_get}
use Rattle.wf_ast.specs.declared.types.Ty.{Ty}
use Rattle.wf_named.specs.declared.declarations.NamedStruct.{NamedStruct}
use Rattle.wf_named.specs.NamedParts.{NamedParts, exprs_of, named_package}
use Rattle.wf_named.specs.NamedTree.{NamedStructTree}
use Rattle.wf_named.specs.NamedTrees.{struct_made}
use Rattle.wf_types_rules.specs.declared.settings.Role.TheVariants as roles
use Rattle.wf_types_rules.specs.DeclaredTypes.{types_in}
use Rattle.wf_types_decls.specs.Packages.{field_types}

-- One item more.
pub take_next : {X : Type 0} (xs : List X) (i : ℕ) (x : X) → slice_get xs i ≡ Some x → take (i + 1) xs ≡ take i xs ++ x ∷ []
take_next xs i x h = take_more xs i x (slice_get_within xs i x h) ∙ ap (λ y. take i xs ++ y ∷ []) (get_or_from_slice_get xs i x x h)

pub made_next : {X Y : Type 0} (made : X → Y) (xs : List X) (i : ℕ) (x : X) → i < length xs → x ≡ get_or xs i x → (before next : List Y) → next ≡ before ++ made x ∷ []
    → (next ++ map made (drop (i + 1) xs)) ≡ (before ++ map made (drop i xs))
made_next made xs i x low is before next e =
    let others = map made (drop (i + 1) xs) in
    ap (λ zs. zs ++ others) e ∙ append_assoc before (made x ∷ []) others
    ∙ ap (λ ys. before ++ ys) (ap (λ y. made y ∷ others) is ∙ sym (at_drop_more (map made) xs i x low))

-- The types of fields, by struct.
structs_are : (q : NamedParts) → (named_package q).structs ≡ map (struct_made q.texts (exprs_of q)) q.structs
unfolding named_package
structs_are q = refl

module _ (q : NamedParts) (fields : List (List (Option Ty))) (h : fields ≡ field_types (named_package q)) where
  fields_made : fields ≡ map (λ (x : NamedStructTree). types_in (named_package q) roles.Field x.fields) (map (struct_made q.texts (exprs_of q)) q.structs)
  fields_made = h ∙ ap (map (λ (x : NamedStructTree). types_in (named_package q) roles.Field x.fields)) (structs_are q)

  pub fields_long : length fields ≡ length q.structs
  fields_long =
      ap length fields_made ∙ length-map (map (struct_made q.texts (exprs_of q)) q.structs) (λ (x : NamedStructTree). types_in (named_package q) roles.Field x.fields)
      ∙ length-map q.structs (struct_made q.texts (exprs_of q))

  pub fields_at : (i : ℕ) (s : NamedStruct) (tys : List (Option Ty)) → i < length q.structs → s ≡ get_or q.structs i s → tys ≡ get_or fields i tys
      → tys ≡ types_in (named_package q) roles.Field (struct_made q.texts (exprs_of q) s).fields
  fields_at i s tys low is of =
      let made = struct_made q.texts (exprs_of q) in
      let F : NamedStructTree → List (Option Ty) = λ x. types_in (named_package q) roles.Field x.fields in
      let within : i < length (map made q.structs) = subst (λ n. i < n) (sym (length-map q.structs made)) low in
      of ∙ ap (λ fs. get_or fs i tys) fields_made ∙ get_or-map F (map made q.structs) i (made s) tys within
      ∙ ap F (get_or-map made q.structs i s (made s) low) ∙ ap (λ x. F (made x)) (sym is)
