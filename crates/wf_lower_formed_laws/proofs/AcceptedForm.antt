-- The text of an accepted package has the unit form.
use Rattle.std.proofs.Common.{◌≡◌, ℕ, zero, suc, ◌<◌, true, false, List, [], ◌∷◌, take, refl, sym, ap, ◌∙◌, subst, arith}
use Rattle.std.specs.Prelude.{slice_get, is_some, bytes_eq, codes}
use Rattle.wf_ast.specs.declared.typed_nodes.TypedNodes.{TypedNodes}
use Rattle.wf_ast.specs.BaseStatuses.{base_statuses}
use Rattle.wf_ast.specs.TypedInvariant.{IsTyped}
use Rattle.wf_ast.specs.TypedPackage.{PackageTree, package_of}
use Rattle.wf_ast.specs.ParsedTree.{DeclTree}
use Rattle.wf_ast.specs.ReadPackage.{decls_of}
use Rattle.wf_names_resolve.specs.Package.{resolved_package}
use Rattle.wf_typed_tree.specs.ElaboratedPackage.{typed_package}
use Rattle.wf_typed_const_laws.proofs.Lengths.{read_arrays_are_bounded}
use Rattle.wf_lower_laws.specs.FieldLaw.{HasShortArrays}
use Rattle.wf_lower_laws.specs.TypeLaw.{HasBaseStatuses}
use Rattle.wf_lower_laws.proofs.FormLaw.{texts_are_formed}
use Rattle.wf_lower_laws.proofs.ItemTypes.{texts_are_typed}
use Rattle.wf_lower_laws.proofs.Surfaces.{texts_meet_surfaces}
use Rattle.wf_typed_laws.specs.ApartNames.{HasApartNames}
use Rattle.wf_typed_laws.specs.PlainNames.{HasPlainNames}
use Rattle.wf_typed_laws.proofs.ApartNames.{read_names_are_apart}
use Rattle.wf_typed_laws.proofs.TypedNames.{read_names_are_plain}
use Rattle.wf_lower_formed_laws.specs.AcceptedForm.{AcceptedTextsAreFormed, ReadTextsAreFormed}
use Rattle.wf_lower_formed_laws.proofs.NamesKept.{names_are_kept}

-- What stands in a front of a list stands in it.
in_whole : (xs : List (List ℕ)) (j k : ℕ) → is_some (slice_get (take j xs) k) ≡ true → is_some (slice_get xs k) ≡ true
in_whole [] zero k h = h
in_whole [] (suc j) k h = h
in_whole (x ∷ xs) zero k h = absurd (cc h)
in_whole (x ∷ xs) (suc j) zero h = refl
in_whole (x ∷ xs) (suc j) (suc k) h = in_whole xs j k h

ten : (k : ℕ) → k < 10 → is_some (slice_get base_statuses k) ≡ true
ten zero l = refl
ten (suc zero) l = refl
ten (suc (suc zero)) l = refl
ten (suc (suc (suc zero))) l = refl
ten (suc (suc (suc (suc zero)))) l = refl
ten (suc (suc (suc (suc (suc zero))))) l = refl
ten (suc (suc (suc (suc (suc (suc zero)))))) l = refl
ten (suc (suc (suc (suc (suc (suc (suc zero))))))) l = refl
ten (suc (suc (suc (suc (suc (suc (suc (suc zero)))))))) l = refl
ten (suc (suc (suc (suc (suc (suc (suc (suc (suc zero))))))))) l = refl
ten (suc (suc (suc (suc (suc (suc (suc (suc (suc (suc k)))))))))) l = absurd (omega (arith, l))

base_there : (nodes : TypedNodes) → IsTyped nodes → HasBaseStatuses (package_of nodes)
unfolding package_of
base_there nodes typed k l =
    let P : List (List ℕ) → Type 0 = λ z. is_some (slice_get z k) ≡ true in
    in_whole nodes.statuses 10 k (subst P (sym typed.base_first) (ten k l))

pub accepted_texts_are_formed : AcceptedTextsAreFormed
accepted_texts_are_formed nodes typed few named short =
    let p = package_of nodes in
    let names = names_are_kept nodes typed named in
    let surface = texts_meet_surfaces p typed.rules names.items in
    texts_are_formed nodes typed few names.variables names.items (record {
      typed = texts_are_typed p typed.rules names.items names.variables names.fields short (base_there nodes typed);
      meets = surface.meets;
      complete = surface.complete;
    })

named_so : (name : List ℕ) (texts : List (List ℕ)) (decls : List DeclTree) (order struct_order : List ℕ) → (typed_package (resolved_package name texts decls order struct_order)).package_name ≡ name
unfolding typed_package
named_so name texts decls order struct_order = refl

pub read_texts_are_formed : ReadTextsAreFormed
read_texts_are_formed name files read parsed kept free order struct_order nodes tree typed few =
    let called : (package_of nodes).package_name ≡ name = ap (λ (p : PackageTree). p.package_name) tree ∙ (named_so read.name read.texts (decls_of read) order struct_order ∙ parsed.named) in
    let P : List ℕ → Type 0 = λ z. bytes_eq z (codes "base") ≡ false in
    accepted_texts_are_formed nodes typed few (record {
      plain = subst HasPlainNames (sym tree) (read_names_are_plain name files read parsed kept order struct_order);
      apart = subst HasApartNames (sym tree) (read_names_are_apart name files read parsed kept order struct_order);
      package_name = subst P (sym called) free;
    }) (subst HasShortArrays (sym tree) (read_arrays_are_bounded name files read parsed kept order struct_order).short)
