-- In an order of the structs the fields of each hold only those before it.
use Rattle.std.proofs.Common.{◌≡◌, ℕ, ◌<◌, Bool, true, not, ◌&&◌, ◌||◌, List, [], ◌∷◌, ◌++◌, length, Option, Some, None, slice_get, nat_eq, is_some, refl, sym, ap, ◌∙◌, subst, arith, append_assoc}
use Rattle.wf_text.specs.Precedence.{Decides}
use Rattle.wf_ast.specs.ParsedTree as tree
use Rattle.wf_ast.specs.ParsedTree.{TypeTree, DeclTree}
use Rattle.wf_named.specs.NamedTree.{NamedPackageTree}
use Rattle.wf_named.specs.WellNamed.{is_among, is_whole_type, is_whole_struct, structs_in_front, has_struct_order}
use Rattle.wf_names_rules.specs.Declarations.{Variable, Structure, Declared, declared, struct_named}
use Rattle.wf_names_rules.specs.Uses.{Scope, type_uses, struct_scope}
use Rattle.graphs.specs.Graphs.{Path, last, more, holds, goes}
use Rattle.graphs.specs.Orders.{IsOrder, HasCycle}
use Rattle.wf_names_rules.specs.Sizes.{struct_held, holds_struct}
use Rattle.wf_names_rules.specs.NameRules.{Breaks}
use Rattle.graphs.proofs.NumberLemmas.{number_self}
use Rattle.graphs.proofs.OrderLemmas.{goes-below}
use Rattle.graphs.proofs.WalkLemmas.{holds-pushed}
use Rattle.wf_names_uses.proofs.FoundLemmas.{both-so}
use Rattle.wf_names_resolve.specs.Standing.{standing_at}
use Rattle.wf_names_resolve.specs.Resolved.{number_or, resolved_type}
use Rattle.wf_names_resolve.specs.Package.{resolved_structs, resolved_package}
use Rattle.wf_names_laws.specs.Kept.{AreKept}
use Rattle.wf_names_laws.proofs.ListLemmas.{all-at}
use Rattle.wf_names_laws.proofs.PackageLemmas.{struct-resolved, structs-long}
use Rattle.wf_names_laws.proofs.DeclLaws.{struct-types-kept}
use Rattle.wf_names_laws.proofs.FrontLemmas.{not-true, twice, placed, behind}
use Rattle.wf_names_laws.proofs.WholeLaws.{item-at, fields-whole, holds-it, no-cycle}

-- A type whose struct, if it is one, is known.
type-known : (d : Declared) (scope : Scope) (known : ℕ → Bool) (of : TypeTree) → AreKept d scope (type_uses of) → ((m : ℕ) → struct_held d of ≡ Some m → known m ≡ true)
    → is_whole_type known (resolved_type (standing_at d scope) of) ≡ true
type-known d scope known (tree.slice_of at element) kept all = refl
type-known d scope known (tree.array_of length at element) kept all = refl
type-known d scope known (tree.base_type name at bounds) kept all = refl
type-known d scope known (tree.status_type at bounds) kept all = refl
type-known d scope known (tree.struct_type text) kept all = by_number (struct_named d text.text.0) kept.0 all
  where
    by_number : (o : Option ℕ) → is_some o ≡ true → ((m : ℕ) → o ≡ Some m → known m ≡ true) → known (number_or o) ≡ true
    by_number None there all = absurd (cc there)
    by_number (Some m) there all = all m refl

-- `rows` list for each struct those that it holds.
module _ (name : List ℕ) (texts : List (List ℕ)) (decls : List DeclTree) (order struct_order : List ℕ) (h : Decides (Breaks (declared texts decls)) None)
    (rows : List (List ℕ)) (long : length rows ≡ length (declared texts decls).structs) (same : (a b : ℕ) → goes rows a b ≡ holds_struct (declared texts decls) a b) where
  abbrev d : Declared
  d = declared texts decls

  abbrev p : NamedPackageTree
  p = resolved_package name texts decls order struct_order

  way-held : (a b : ℕ) → Path (goes rows) a b → Path (holds_struct d) a b
  way-held _ _ (last a b s) = last a b (sym (same a b) ∙ s)
  way-held _ _ (more a b c s q) = more a b c (sym (same a b) ∙ s) (way-held b c q)

  begins : (a b : ℕ) → Path (goes rows) a b → a < length rows
  begins _ _ (last a b s) = goes-below rows a b s
  begins _ _ (more a b c s q) = goes-below rows a b s

  pub no-struct-cycle : HasCycle rows → ⊥
  no-struct-cycle c =
      let begun : c.0 < length rows = begins c.0 c.0 c.1 in
      let found = item-at d.structs c.0 (omega (arith, begun, long)) in
      no-cycle name texts decls order struct_order h c.0 found.0 found.1 (way-held c.0 c.0 c.1)

  module _ (ordered : IsOrder rows struct_order) where
    structs-there : nat_eq (length p.struct_order) (length p.structs) ≡ true
    structs-there =
        let there : length struct_order ≡ length (resolved_structs d decls) = ordered.whole ∙ long ∙ sym (structs-long d decls) in
        let P : ℕ → Type 0 = λ n. nat_eq (length struct_order) n ≡ true in
        subst P there (number_self (length struct_order))

    -- A struct with what stands before it.
    struct-front : (front back : List ℕ) (a : ℕ) (known : ℕ → Bool) → struct_order ≡ front ++ a ∷ back → ((b : ℕ) → holds front b ≡ true → known b ≡ true)
        → is_whole_struct known (slice_get p.structs a) ≡ true
    struct-front front back a known split knows =
        let below : a < length rows = placed rows struct_order ordered front back a split in
        let found = item-at d.structs a (omega (arith, below, long)) in
        let it : Structure = found.0 in
        let scope = struct_scope d it in
        let held : (i : ℕ) (v : Variable) → slice_get it.fields i ≡ Some v → (m : ℕ) → struct_held d v.of ≡ Some m → known m ≡ true = λ i v e m k.
        knows m (behind rows struct_order ordered front back a m split (same a m ∙ holds-it name texts decls order struct_order h a m i it v found.1 e k)) in
        ap (is_whole_struct known) (struct-resolved d decls a it found.1).1
        ∙ fields-whole (standing_at d scope) known it.fields
        (λ i v e. type-known d scope known v.of (all-at (λ (w : Variable). AreKept d scope (type_uses w.of)) it.fields i v (struct-types-kept name texts decls order struct_order h a it found.1) e) (held i v e))

    fronts : (front rest seen : List ℕ) → struct_order ≡ front ++ rest → ((b : ℕ) → is_among seen b ≡ holds front b) → structs_in_front p seen rest ≡ true
    fronts front [] seen split alike = refl
    fronts front (a ∷ back) seen split alike =
        both-so (is_whole_struct (is_among seen) (slice_get p.structs a)) (not (is_among seen a) && structs_in_front p (a ∷ seen) back)
        (struct-front front back a (is_among seen) split (λ b k. alike b ∙ k))
        (both-so (not (is_among seen a)) (structs_in_front p (a ∷ seen) back)
        (not-true (is_among seen a) (λ k. twice rows struct_order ordered front back a split (sym (alike a) ∙ k)))
        (fronts (front ++ a ∷ []) back (a ∷ seen) (split ∙ sym (append_assoc front (a ∷ []) back)) (λ b. ap (λ t. nat_eq b a || t) (alike b) ∙ sym (holds-pushed front a b))))

    pub struct-order-stands : has_struct_order p ≡ true
    struct-order-stands = both-so (nat_eq (length p.struct_order) (length p.structs)) (structs_in_front p [] p.struct_order) structs-there (fronts [] struct_order [] refl (λ b. refl))
