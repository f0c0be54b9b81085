-- What the names of called methods mean.
use Rattle.std.proofs.Common.{◌≡◌, inl, inr, ℕ, Bool, true, false, ◌&&◌, if◌then◌else◌, List, [], ◌∷◌, map, Option, Some, None, IfSome, slice_get, nat_eq, is_some, refl, sym, ap, ◌∙◌, subst}
use Rattle.wf_text.specs.declared.place.Place.{Place}
use Rattle.wf_text.specs.Precedence.{Decides}
use Rattle.wf_base.specs.declared.base_methods.BaseSig.{BaseSig}
use Rattle.wf_base.specs.BaseTable as table
use Rattle.wf_base.proofs.TableLemmas.{method_named_found}
use Rattle.wf_ast.specs.declared.numbers.TextId.{TextId}
use Rattle.wf_ast.specs.declared.parsed.Name.{Name}
use Rattle.wf_ast.specs.declared.parsed.Path.{Path}
use Rattle.wf_ast.specs.declared.parsed.Receiver.{Receiver}
use Rattle.wf_ast.specs.declared.parsed.Receiver.TheVariants as receivers
use Rattle.wf_ast.specs.declared.parsed.Root.{Root}
use Rattle.wf_ast.specs.declared.parsed.Root.TheVariants as roots
use Rattle.wf_named.specs.declared.nodes.Variable.TheVariants as variables
use Rattle.wf_names_rules.specs.declared.callees.Callee.{Callee}
use Rattle.wf_names_rules.specs.declared.callees.Callee.TheVariants as callees
use Rattle.wf_names_rules.specs.declared.sorts.Sort.{Sort}
use Rattle.wf_names_rules.specs.declared.sorts.Sort.TheVariants as sorts
use Rattle.wf_names_rules.specs.Declarations.{Method, Declared, is_spelt, text_of, struct_named, method_named}
use Rattle.wf_names_rules.specs.NameRules as rules
use Rattle.wf_names_rules.specs.NameRules.{Breaks, by_declaration, declared_twice, twice, names_owned}
use Rattle.wf_names_rules.specs.Meanings.{method_known, public_in, known_at, sort_at, path_sort, this_callee, public_callee, found_base, part_callee, sorted_callee, callee_on}
use Rattle.wf_names_rules.specs.Uses.{Scope}
use Rattle.graphs.proofs.NumberLemmas.{same_number, number_self}
use Rattle.wf_names_rules.proofs.OwnedLemmas.{owned_before, owned-at, before-same}
use Rattle.wf_names_uses.specs.Fitting.{is_open}
use Rattle.wf_names_uses.proofs.FoundLemmas.{both}
use Rattle.wf_names_resolve.specs.Standing.{standing_at}
use Rattle.wf_names_resolve.specs.Resolved.{number_or, callee_at}
use Rattle.wf_names_laws.proofs.KindLemmas.{struct-type}
use Rattle.wf_names_laws.proofs.ListLemmas.{FoundAt, found-or-not, place-of}
use Rattle.wf_names_scope_laws.specs.Scoping.{IsCalled, IsMethodCalled, IsMethodOf, OwnMethodMeans, SubMethodMeans, CalleeMeans}
use Rattle.wf_names_scope_laws.proofs.Apart.{AreOnce, IsApart, one-found, name-once}
use Rattle.wf_names_scope_laws.proofs.Variables.{Met, root-met}

-- ---- the methods of a struct

spelt-so : (text : ℕ) (name : Name) → IsCalled text name → is_spelt text name ≡ true
spelt-so text name p = subst (λ n. nat_eq name.text.0 n ≡ true) p (number_self name.text.0)

names-same : (ns : List Name) → map (λ n. n) ns ≡ ns
names-same [] = refl
names-same (n ∷ ns) = ap (λ zs. n ∷ zs) (names-same ns)

module _ (d : Declared) (h : Decides (Breaks d) None) where
  methods-once : (owner text : ℕ) → AreOnce (IsMethodCalled owner text) d.methods
  methods-once owner text i j m n e f p q =
      let names = names_owned owner d.methods in
      let own = spelt-so owner m.owner p.0 in
      let other = spelt-so owner n.owner q.0 in
      let none : (later : Name) → rules.IsRepeated (map (λ x. x) names) later → ⊥ = λ later r. h (twice later) (by_declaration (twice later) (declared_twice names later (rules.methods owner) (subst (λ zs. rules.IsRepeated zs later) (names-same names) r))) in
      before-same owner d.methods i j m n e f own other
      (name-once (λ (x : Name). x) names none text (owned_before owner d.methods i) (owned_before owner d.methods j) m.name n.name
      (owned-at owner d.methods i m e own) (owned-at owner d.methods j n f other) p.1 q.1)

  abbrev is_method : (owner text : ℕ) → Method → Bool
  is_method owner text m = is_spelt owner m.owner && is_spelt text m.name

  -- The method that is found by its names.
  method-one : (owner text n : ℕ) → method_named d owner text ≡ Some n → (m : Method) × IsMethodOf d owner text n m
  method-one owner text n e = elim (found-or-not (is_method owner text) 0 d.methods) [
    | inl r ↦ found r
    | inr r ↦ absurd (cc (sym r.placed ∙ e))
  ]
    where
      sound : (m : Method) → is_method owner text m ≡ true → IsMethodCalled owner text m
      sound m p =
          let r = both (is_spelt owner m.owner) (is_spelt text m.name) p in
          (same_number m.owner.text.0 owner r.0, same_number m.name.text.0 text r.1)

      found : FoundAt (is_method owner text) 0 d.methods → (m : Method) × IsMethodOf d owner text n m
      found r =
          let same : r.i ≡ n = cc (sym (place-of (is_method owner text) d.methods r) ∙ e) in
          (r.x, subst (λ k. IsMethodOf d owner text k r.x) same (one-found (is_method owner text) (IsMethodCalled owner text) sound d.methods (methods-once owner text) r))

  module _ (scope : Scope) (apart : IsApart d scope) where
    -- What a callee that may be called means.
    abbrev Means : Receiver → (text : ℕ) → Callee → Type 0
    Means on text callee = is_open callee ≡ true → CalleeMeans d scope on text (callee_at (standing_at d scope) on callee)

    own-means : (text m : ℕ) (this : Option ℕ) → scope.this ≡ this → method_known d this text ≡ Some m → OwnMethodMeans d scope.this text m
    own-means text m None is e = absurd (cc e)
    own-means text m (Some owner) is e =
        let r = method-one owner text m e in
        record { owner = owner; is = is; method = r.0; means = r.1 }

    this-means : (at : Place) (text : ℕ) (o : Option ℕ) (elsewhere : Bool) → method_known d scope.this text ≡ o → Means (receivers.This at) text (this_callee o elsewhere)
    this-means at text (Some m) elsewhere e k = own-means text m scope.this refl e
    this-means at text None true e k = absurd (cc k)
    this-means at text None false e k = absurd (cc k)

    sub-means : (path : Path) (text m : ℕ) (owner : TextId) → path.root ≡ roots.This → Met d scope roots.This path.name.text.0 (sorts.Struct owner) (variables.Field (record { 0 = number_or ((standing_at d scope).field path.name.text.0) }))
        → method_named d owner.0 text ≡ Some m → public_in (slice_get d.methods m) ≡ true → SubMethodMeans d scope path text (number_or ((standing_at d scope).field path.name.text.0)) m
    sub-means path text m owner this met e open_here =
        let type = struct-type (text_of d) met.v.of owner met.sort_is in
        let number : owner.0 ≡ type.name.text.0 = ap (λ (t : TextId). t.0) (sym type.same) in
        let r = method-one type.name.text.0 text m (ap (λ o. method_named d o text) (sym number) ∙ e) in
        record {
          this = this;
          v = met.v;
          holder = met.means;
          name = type.name;
          type = type.is;
          method = r.0;
          means = r.1;
          public = ap public_in (sym r.1.there) ∙ open_here;
        }

    public-means : (path : Path) (text : ℕ) (owner : TextId) → path.root ≡ roots.This → sort_at (known_at d scope) roots.This path.name.text.0 ≡ Some (sorts.Struct owner)
        → (o : Option ℕ) → method_named d owner.0 text ≡ o → Means (receivers.Path path) text (public_callee (known_at d scope) o)
    public-means path text owner this is None e k = absurd (cc k)
    public-means path text owner this is (Some m) e k = by_mark (public_in (slice_get d.methods m)) refl k
      where
        by_mark : (t : Bool) → public_in (slice_get d.methods m) ≡ t → Means (receivers.Path path) text (if t then callees.Own m else callees.Hidden m)
        by_mark true p k = sub-means path text m owner this (root-met d h scope apart roots.This path.name.text.0 (sorts.Struct owner) is) e p
        by_mark false p k = absurd (cc k)

    part-means : (path : Path) (text : ℕ) (owner : TextId) (root : Root) → path.root ≡ root → sort_at (known_at d scope) root path.name.text.0 ≡ Some (sorts.Struct owner)
        → Means (receivers.Path path) text (part_callee (known_at d scope) root owner.0 text)
    part-means path text owner roots.Bare r is k = absurd (cc k)
    part-means path text owner roots.Args r is k = absurd (cc k)
    part-means path text owner roots.This r is k = by_struct (is_some (struct_named d owner.0)) k
      where
        by_struct : (t : Bool) → Means (receivers.Path path) text (if t then public_callee (known_at d scope) (method_named d owner.0 text) else callees.Baseless)
        by_struct true k = public-means path text owner r is (method_named d owner.0 text) refl k
        by_struct false k = absurd (cc k)

    sorted-means : (path : Path) (text : ℕ) (sort : Option Sort) → path_sort (known_at d scope) path ≡ sort → Means (receivers.Path path) text (sorted_callee (known_at d scope) path.root sort text)
    sorted-means path text None is k = absurd (cc k)
    sorted-means path text (Some sorts.Plain) is k = absurd (cc k)
    sorted-means path text (Some (sorts.Struct owner)) is k = part-means path text owner path.root refl is k
    sorted-means path text (Some (sorts.Methods kind)) is k = by_base (table.method_named kind (text_of d text)) refl k
      where
        by_base : (o : Option BaseSig) → table.method_named kind (text_of d text) ≡ o → Means (receivers.Path path) text (found_base o)
        by_base None e k = absurd (cc k)
        by_base (Some sig) e k =
            let met = root-met d h scope apart path.root path.name.text.0 (sorts.Methods kind) is in
            record {
              v = met.v;
              holder = met.means;
              place = refl;
              kind = kind;
              type = met.sort_is;
              means = subst (λ o. IfSome o (λ method. table.IsMethod kind (text_of d text) method)) e (method_named_found kind (text_of d text));
            }

    pub callee-means : (on : Receiver) (text : ℕ) → is_open (callee_on (known_at d scope) on text) ≡ true
        → CalleeMeans d scope on text (callee_at (standing_at d scope) on (callee_on (known_at d scope) on text))
    callee-means (receivers.This at) text k = this-means at text (method_known d scope.this text) ((known_at d scope).is_method text) refl k
    callee-means (receivers.Path path) text k = sorted-means path text (path_sort (known_at d scope) path) refl k
