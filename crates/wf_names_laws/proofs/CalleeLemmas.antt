-- What is called may be called there, and wants as many arguments as it declares.
use Rattle.std.proofs.Common.{◌≡◌, ℕ, Bool, true, false, ◌&&◌, if◌then◌else◌, List, map, length, Option, Some, None, IfSome, option_and_then, slice_get, nat_eq, is_some, refl, sym, ap, ◌∙◌, subst, inl, inr}
use Rattle.std.specs.List.{IsDistinct}
use Rattle.std.proofs.lemmas.List.{length-map}
use Rattle.wf_text.specs.declared.place.Place.{Place}
use Rattle.wf_base.specs.declared.base_methods.Kind.{Kind}
use Rattle.wf_base.specs.declared.base_methods.BaseSig.{BaseSig}
use Rattle.wf_base.specs.BaseTable as table
use Rattle.wf_base.specs.BaseTable.{row_of}
use Rattle.wf_base.proofs.TableLemmas.{method_named_found}
use Rattle.wf_ast.specs.declared.numbers.TextId.{TextId}
use Rattle.wf_ast.specs.declared.parsed.Name.{Name}
use Rattle.wf_ast.specs.declared.parsed.Path.{Path}
use Rattle.wf_ast.specs.declared.parsed.Receiver.{Receiver}
use Rattle.wf_ast.specs.declared.parsed.Receiver.TheVariants as receivers
use Rattle.wf_ast.specs.declared.parsed.Root.{Root}
use Rattle.wf_ast.specs.declared.parsed.Root.TheVariants as roots
use Rattle.wf_ast.specs.declared.parsed.WrittenMark.{WrittenMark}
use Rattle.wf_ast.specs.ParsedTree as tree
use Rattle.wf_ast.specs.ParsedTree.{GivenTrees}
use Rattle.wf_named.specs.declared.nodes.NamedCallee.TheVariants as named_callees
use Rattle.wf_named.specs.declared.nodes.Variable.TheVariants as variables
use Rattle.wf_named.specs.NamedTree.{NamedMethodTree, struct_type}
use Rattle.wf_named.specs.WellNamed.{NamedScope as NamedScope, type_of_variable, kind_of, has_kind, args_of_own, args_of_sub, args_wanted, is_wanted, count_args, named_args, named_call}
use Rattle.wf_names_rules.specs.declared.callees.Callee.{Callee}
use Rattle.wf_names_rules.specs.declared.callees.Callee.TheVariants as callees
use Rattle.wf_names_rules.specs.declared.sorts.Sort.{Sort}
use Rattle.wf_names_rules.specs.declared.sorts.Sort.TheVariants as sorts
use Rattle.wf_names_rules.specs.Declarations.{Method, Declared, is_spelt, text_of, struct_named, method_named}
use Rattle.wf_names_rules.specs.Uses.{Scope, given_uses}
use Rattle.wf_names_rules.specs.Meanings.{method_known, public_in, args_in, known_at, sort_at, path_sort, this_callee, public_callee, found_base, part_callee, sorted_callee, callee_on, parameters_of, lacks_one}
use Rattle.graphs.proofs.NumberLemmas.{same_number, number_self}
use Rattle.wf_names_uses.specs.Fitting.{is_open, Fits}
use Rattle.wf_names_uses.proofs.FoundLemmas.{both, both-so}
use Rattle.wf_names_resolve.specs.Standing.{Standing, standing_at}
use Rattle.wf_names_resolve.specs.Resolved.{number_or, variable_at, resolved_path, callee_at, resolved_type, resolved_given, resolved_call, args_for}
use Rattle.wf_names_laws.specs.Kept.{AreKept}
use Rattle.wf_names_laws.specs.ResolvedScopes.{IsScopeOf, IsMethodOf}
use Rattle.wf_names_laws.proofs.ListLemmas.{FoundAt, found-or-not, place-of, chosen}
use Rattle.wf_names_laws.proofs.KindLemmas.{struct-type, kind-same, kind-itself}
use Rattle.wf_names_laws.proofs.VariableLemmas.{Names, root-named}
use Rattle.wf_names_laws.proofs.ArgumentLemmas.{AreNamed, texts_given, named-args-counted, spelt-args-counted}
use Rattle.wf_names_laws.proofs.HandedLemmas.{AreHandedOnce, named-args-named, spelt-args-named, args-distinct, base-args-distinct, given-apart}

-- How many arguments a callee declares.
abbrev pub wanted_by : (args : ℕ → List ℕ) → Callee → ℕ
wanted_by args (callees.Own m) = length (args m)
wanted_by args (callees.Base sig) = length (row_of sig).args
wanted_by args _ = 0

-- A method of this struct with this number.
record MethodAt (d : Declared) (owner m : ℕ) : Type 0 where
  it : Method
  is : slice_get d.methods m ≡ Some it
  owned : it.owner.text.0 ≡ owner

method-at : (d : Declared) (owner text m : ℕ) → method_named d owner text ≡ Some m → MethodAt d owner m
method-at d owner text m e = elim (found-or-not (λ (x : Method). is_spelt owner x.owner && is_spelt text x.name) 0 d.methods) [
  | inl r ↦ found r
  | inr r ↦ absurd (cc (sym r.placed ∙ e))
]
  where
    found : FoundAt (λ (x : Method). is_spelt owner x.owner && is_spelt text x.name) 0 d.methods → MethodAt d owner m
    found r =
        let same : r.i ≡ m = cc (sym (place-of (λ (x : Method). is_spelt owner x.owner && is_spelt text x.name) d.methods r) ∙ e) in
        record { it = r.x; is = ap (slice_get d.methods) (sym same) ∙ r.is; owned = same_number r.x.owner.text.0 owner (both (is_spelt owner r.x.owner) (is_spelt text r.x.name) r.passes).0 }

-- What a callee wants, where it may be called.
abbrev Wants : Declared → Scope → NamedScope → Receiver → Callee → Type 0
Wants d scope s on callee = is_open callee ≡ true → args_wanted s (callee_at (standing_at d scope) on callee) ≡ Some (wanted_by (known_at d scope).args callee)

module _ (d : Declared) (scope : Scope) (s : NamedScope) (known : IsScopeOf d scope s) where
  args-same : (m : ℕ) (it : Method) → slice_get d.methods m ≡ Some it → (resolved : NamedMethodTree) → IsMethodOf d it resolved → length resolved.args ≡ length ((known_at d scope).args m)
  args-same m it is resolved of = of.args ∙ ap (λ o. length (args_in o)) (sym is)

  own-wanted : (text m : ℕ) (this : Option ℕ) → scope.this ≡ this → method_known d this text ≡ Some m
      → args_wanted s (named_callees.Own (record { 0 = m })) ≡ Some (length ((known_at d scope).args m))
  own-wanted text m None is e = absurd (cc e)
  own-wanted text m (Some owner) is e =
      let at = method-at d owner text m e in
      let has = known.methods m at.it at.is in
      let number : has.resolved.of ≡ number_or (struct_named d owner) = has.of.of ∙ ap (λ n. number_or (struct_named d n)) at.owned in
      ap (λ o. args_of_own o (slice_get s.within.methods m)) (known.owner owner is)
      ∙ ap (args_of_own (Some (number_or (struct_named d owner)))) has.is
      ∙ chosen (nat_eq has.resolved.of (number_or (struct_named d owner))) (Some (length has.resolved.args)) None (ap (λ n. nat_eq n (number_or (struct_named d owner))) number ∙ number_self (number_or (struct_named d owner)))
      ∙ ap (λ n. Some n) (args-same m at.it at.is has.resolved has.of)

  sub-wanted : (field text m : ℕ) (owner : TextId) → Names d s (sorts.Struct owner) (variables.Field (record { 0 = field })) → method_named d owner.0 text ≡ Some m
      → public_in (slice_get d.methods m) ≡ true → args_wanted s (named_callees.Sub (record { 0 = field }) (record { 0 = m })) ≡ Some (length ((known_at d scope).args m))
  sub-wanted field text m owner names e open_here =
      let at = method-at d owner.0 text m e in
      let has = known.methods m at.it at.is in
      let type = struct-type (text_of d) names.v.of owner names.sort_is in
      let n = number_or (struct_named d type.name.text.0) in
      let of : type_of_variable s (variables.Field (record { 0 = field })) ≡ Some (struct_type n type.name.at) = names.type_is ∙ ap (λ t. Some (resolved_type (standing_at d names.there) t)) type.is in
      let owners : at.it.owner.text.0 ≡ type.name.text.0 = at.owned ∙ ap (λ (t : TextId). t.0) (sym type.same) in
      let number : has.resolved.of ≡ n = has.of.of ∙ ap (λ t. number_or (struct_named d t)) owners in
      let public : has.resolved.public ≡ true = has.of.public ∙ ap public_in (sym at.is) ∙ open_here in
      ap (λ o. args_of_sub o (slice_get s.within.methods m)) of
      ∙ ap (args_of_sub (Some (struct_type n type.name.at))) has.is
      ∙ chosen (has.resolved.public && nat_eq has.resolved.of n) (Some (length has.resolved.args)) None
      (both-so has.resolved.public (nat_eq has.resolved.of n) public (ap (λ x. nat_eq x n) number ∙ number_self n))
      ∙ ap (λ x. Some x) (args-same m at.it at.is has.resolved has.of)

  base-wanted : (path : Path) (text : ℕ) (kind : Kind) (sig : BaseSig) → Names d s (sorts.Methods kind) (variable_at (standing_at d scope) path.root path.name.text.0)
      → table.method_named kind (text_of d text) ≡ Some sig
      → args_wanted s (named_callees.Base (resolved_path (standing_at d scope) path) sig) ≡ Some (length (row_of sig).args)
  base-wanted path text kind sig names e =
      let on : (row_of sig).on ≡ kind = (subst (λ o. IfSome o (λ method. table.IsMethod kind (text_of d text) method)) e (method_named_found kind (text_of d text))).0 in
      let found : option_and_then kind_of (type_of_variable s (variable_at (standing_at d scope) path.root path.name.text.0)) ≡ Some kind =
      ap (option_and_then kind_of) names.type_is ∙ kind-same (standing_at d names.there) names.v.of kind names.sort_is in
      chosen (has_kind (row_of sig).on (option_and_then kind_of (type_of_variable s (variable_at (standing_at d scope) path.root path.name.text.0)))) (Some (length (row_of sig).args)) None
      (ap (has_kind (row_of sig).on) found ∙ ap (λ o. has_kind o (Some kind)) on ∙ kind-itself kind)

  -- A call on `this`.
  this-wanted : (at : Place) (text : ℕ) (o : Option ℕ) (elsewhere : Bool) → method_known d scope.this text ≡ o → Wants d scope s (receivers.This at) (this_callee o elsewhere)
  this-wanted at text (Some m) elsewhere e h = own-wanted text m scope.this refl e
  this-wanted at text None true e h = absurd (cc h)
  this-wanted at text None false e h = absurd (cc h)

  -- A call through a field.
  public-wanted : (path : Path) (text : ℕ) (owner : TextId) → sort_at (known_at d scope) roots.This path.name.text.0 ≡ Some (sorts.Struct owner)
      → (o : Option ℕ) → method_named d owner.0 text ≡ o → Wants d scope s (receivers.Path path) (public_callee (known_at d scope) o)
  public-wanted path text owner is None e h = absurd (cc h)
  public-wanted path text owner is (Some m) e h = by_mark (public_in (slice_get d.methods m)) refl h
    where
      by_mark : (t : Bool) → public_in (slice_get d.methods m) ≡ t → Wants d scope s (receivers.Path path) (if t then callees.Own m else callees.Hidden m)
      by_mark true p k =
          sub-wanted (number_or ((standing_at d scope).field path.name.text.0)) text m owner (root-named d scope s known roots.This path.name.text.0 (sorts.Struct owner) is) e p
      by_mark false p k = absurd (cc k)

  part-wanted : (path : Path) (text : ℕ) (owner : TextId) (root : Root) → sort_at (known_at d scope) root path.name.text.0 ≡ Some (sorts.Struct owner)
      → Wants d scope s (receivers.Path path) (part_callee (known_at d scope) root owner.0 text)
  part-wanted path text owner roots.Bare is h = absurd (cc h)
  part-wanted path text owner roots.Args is h = absurd (cc h)
  part-wanted path text owner roots.This is h = by_struct (is_some (struct_named d owner.0)) h
    where
      by_struct : (t : Bool) → Wants d scope s (receivers.Path path) (if t then public_callee (known_at d scope) (method_named d owner.0 text) else callees.Baseless)
      by_struct true k = public-wanted path text owner is (method_named d owner.0 text) refl k
      by_struct false k = absurd (cc k)

  sorted-wanted : (path : Path) (text : ℕ) (sort : Option Sort) → path_sort (known_at d scope) path ≡ sort
      → Wants d scope s (receivers.Path path) (sorted_callee (known_at d scope) path.root sort text)
  sorted-wanted path text None is h = absurd (cc h)
  sorted-wanted path text (Some sorts.Plain) is h = absurd (cc h)
  sorted-wanted path text (Some (sorts.Struct owner)) is h = part-wanted path text owner path.root is h
  sorted-wanted path text (Some (sorts.Methods kind)) is h = by_base (table.method_named kind (text_of d text)) refl h
    where
      by_base : (o : Option BaseSig) → table.method_named kind (text_of d text) ≡ o → Wants d scope s (receivers.Path path) (found_base o)
      by_base None e k = absurd (cc k)
      by_base (Some sig) e k = base-wanted path text kind sig (root-named d scope s known path.root path.name.text.0 (sorts.Methods kind) is) e

  callee-wanted : (on : Receiver) (text : ℕ) → Wants d scope s on (callee_on (known_at d scope) on text)
  callee-wanted (receivers.This at) text h = this-wanted at text (method_known d scope.this text) ((known_at d scope).is_method text) refl h
  callee-wanted (receivers.Path path) text h = sorted-wanted path text (path_sort (known_at d scope) path) refl h

-- The arguments are those that the callee declares.
module _ (k : Standing) (given : GivenTrees) where
  args-counted : (callee : Callee) → is_open callee ≡ true → lacks_one k.bytes (parameters_of k.args callee) (texts_given given) ≡ false
      → count_args (args_for k callee (resolved_given k given)) ≡ wanted_by k.args callee
  args-counted (callees.Own m) h whole = named-args-counted k given (k.args m) whole
  args-counted (callees.Base sig) h whole =
      spelt-args-counted k given k.bytes (map (λ arg. arg.0) (row_of sig).args) whole ∙ length-map (row_of sig).args (λ arg. arg.0)
  args-counted (callees.Hidden m) h whole = absurd (cc h)
  args-counted callees.Foreign h whole = absurd (cc h)
  args-counted callees.Missing h whole = absurd (cc h)
  args-counted callees.Baseless h whole = absurd (cc h)

  args-named : (s : NamedScope) → AreNamed s (resolved_given k given) → AreHandedOnce s (resolved_given k given) → ((m : ℕ) → IsDistinct nat_eq (k.args m)) → (callee : Callee)
      → named_args s (args_for k callee (resolved_given k given)) ≡ true
  args-named s named once distinct (callees.Own m) = named-args-named s (resolved_given k given) named once (k.args m) (distinct m)
  args-named s named once distinct (callees.Base sig) = spelt-args-named s (resolved_given k given) named once k.bytes (map (λ arg. arg.0) (row_of sig).args) (base-args-distinct sig)
  args-named s named once distinct (callees.Hidden m) = refl
  args-named s named once distinct callees.Foreign = refl
  args-named s named once distinct callees.Missing = refl
  args-named s named once distinct callees.Baseless = refl

wanted-so : (o : Option ℕ) (n count : ℕ) → o ≡ Some n → count ≡ n → is_wanted o count ≡ true
wanted-so o n count e c = ap (λ x. is_wanted x count) e ∙ ap (nat_eq n) c ∙ number_self n

-- A call that fits is named, where the values of its arguments are.
pub call-named : (d : Declared) (scope : Scope) (s : NamedScope) → IsScopeOf d scope s → (on : Receiver) (name : Name) (mark : WrittenMark) (given : GivenTrees)
    → Fits d scope (tree.call on name mark given) → AreKept d scope (given_uses given) → AreNamed s (resolved_given (standing_at d scope) given)
    → named_call s (resolved_call (standing_at d scope) (tree.call on name mark given)) ≡ true
call-named d scope s known on name mark given fits kept named =
    let k = standing_at d scope in
    let callee = callee_on (known_at d scope) on name.text.0 in
    let args = args_for k callee (resolved_given k given) in
    both-so (is_wanted (args_wanted s (callee_at k on callee)) (count_args args)) (named_args s args)
    (wanted-so (args_wanted s (callee_at k on callee)) (wanted_by k.args callee) (count_args args) (callee-wanted d scope s known on name.text.0 fits.open_here) (args-counted k given callee fits.open_here fits.whole))
    (args-named k given s named (given-apart d scope s known on name mark given fits kept) (λ m. args-distinct (slice_get d.methods m)) callee)
