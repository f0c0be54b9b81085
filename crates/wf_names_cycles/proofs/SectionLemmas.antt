-- The section of cycles: the rows of the methods are a graph over them, and the first refusal of both graphs.
use Rattle.std.proofs.Common.{◌≡◌, ◌⊎◌, ℕ, zero, suc, ◌<◌, ◌≤◌, Bool, true, false, List, [], ◌∷◌, length, Option, Some, None, slice_get, nat_eq, nat_lt, ◌&&◌, if◌then◌else◌, refl, sym, ap, ◌∙◌, subst, inl, inr, arith}
use Rattle.std.specs.List.{list_any}
use Rattle.std.proofs.lemmas.Bool.Decides.{nat_tests}
use Rattle.std.proofs.lemmas.Option.{none-some}
use Rattle.wf_base.specs.declared.base_methods.BaseSig.{BaseSig}
use Rattle.wf_base.specs.BaseTable as table
use Rattle.wf_text.specs.declared.rules.Refusal.{Refusal}
use Rattle.wf_text.specs.declared.rules.Rule.TheVariants.{N4}
use Rattle.wf_text.specs.Precedence.{Decides}
use Rattle.wf_text.proofs.PrecedenceLaws.{Decides-map}
use Rattle.wf_ast.specs.declared.parsed.Name.{Name}
use Rattle.wf_ast.specs.declared.parsed.Root.{Root}
use Rattle.wf_ast.specs.declared.parsed.Root.TheVariants as roots
use Rattle.wf_ast.specs.declared.parsed.Receiver.{Receiver}
use Rattle.wf_ast.specs.declared.parsed.Receiver.TheVariants as receivers
use Rattle.wf_ast.specs.ParsedTree.{call}
use Rattle.wf_names_rules.specs.declared.callees.Callee.TheVariants as callees
use Rattle.wf_names_rules.specs.declared.sorts.Sort.{Sort}
use Rattle.wf_names_rules.specs.declared.sorts.Sort.TheVariants as sorts
use Rattle.wf_names_rules.specs.Declarations.{Method, Declared, is_spelt, method_named}
use Rattle.wf_names_rules.specs.Uses.{Use, Scope, own_status, base_status, variable, structure, method, method_uses, method_scope}
use Rattle.wf_names_rules.specs.Meanings.{known_at, method_known, path_sort, this_callee, public_callee, struct_callee, found_base, part_callee, sorted_callee, callee_on}
use Rattle.graphs.specs.Graphs.{holds, row_in, goes, AreWithin}
use Rattle.wf_names_rules.specs.Found.{IsOnCycle}
use Rattle.wf_names_rules.specs.NameRules.{is_callee, calls_it, method_calls, calls, CycleBreaks, recursion, holds_itself}
use Rattle.graphs.proofs.NumberLemmas.{same_number}
use Rattle.wf_names_scopes.specs.CallRows.{AreRows}
use Rattle.wf_names_cycles.specs.CyclesFound.{DecidesWith, HoldsItself, Recursion, method_names}
use Rattle.wf_names_cycles.proofs.CycleLemmas.{DecidesWith-map, decides-with, path-map}
use Rattle.wf_names_cycles.proofs.StructLemmas.{position-below, either}

-- A call is of a method that the package has.
module _ (d : Declared) (scope : Scope) (b : ℕ) where
  named-below : (owner text : ℕ) (m : ℕ) → method_named d owner text ≡ Some m → nat_eq b m ≡ true → b < length d.methods
  named-below owner text m e h =
      let is : b ≡ m = same_number b m h in
      omega (arith, is, position-below (λ (x : Method). is_spelt owner x.owner && is_spelt text x.name) 0 d.methods m e)

  known-below : (this : Option ℕ) (text m : ℕ) → method_known d this text ≡ Some m → nat_eq b m ≡ true → b < length d.methods
  known-below None text m e h = absurd (cc e)
  known-below (Some owner) text m e h = named-below owner text m e h

  this-below : (text : ℕ) (o : Option ℕ) (elsewhere : Bool) → method_known d scope.this text ≡ o → is_callee b (this_callee o elsewhere) ≡ true → b < length d.methods
  this-below text None true e h = absurd (cc h)
  this-below text None false e h = absurd (cc h)
  this-below text (Some m) elsewhere e h = known-below scope.this text m e h

  public-below : (owner text : ℕ) (o : Option ℕ) → method_named d owner text ≡ o → is_callee b (public_callee (known_at d scope) o) ≡ true → b < length d.methods
  public-below owner text None e h = absurd (cc h)
  public-below owner text (Some m) e h = either_way ((known_at d scope).is_public m) h
    where
      either_way : (t : Bool) → is_callee b (if t then callees.Own m else callees.Hidden m) ≡ true → b < length d.methods
      either_way true h = named-below owner text m e h
      either_way false h = named-below owner text m e h

  struct-below : (owner text : ℕ) → is_callee b (struct_callee (known_at d scope) owner text) ≡ true → b < length d.methods
  struct-below owner text h = either_way ((known_at d scope).is_struct owner) h
    where
      either_way : (t : Bool) → is_callee b (if t then public_callee (known_at d scope) (method_named d owner text) else callees.Baseless) ≡ true → b < length d.methods
      either_way true h = public-below owner text (method_named d owner text) refl h
      either_way false h = absurd (cc h)

  part-below : (root : Root) (owner text : ℕ) → is_callee b (part_callee (known_at d scope) root owner text) ≡ true → b < length d.methods
  part-below roots.Bare owner text h = absurd (cc h)
  part-below roots.This owner text h = struct-below owner text h
  part-below roots.Args owner text h = absurd (cc h)

  base-below : (o : Option BaseSig) → is_callee b (found_base o) ≡ true → b < length d.methods
  base-below None h = absurd (cc h)
  base-below (Some sig) h = absurd (cc h)

  sorted-below : (root : Root) (o : Option Sort) (text : ℕ) → is_callee b (sorted_callee (known_at d scope) root o text) ≡ true → b < length d.methods
  sorted-below root None text h = absurd (cc h)
  sorted-below root (Some (sorts.Struct owner)) text h = part-below root owner.0 text h
  sorted-below root (Some (sorts.Methods kind)) text h = base-below (table.method_named kind ((known_at d scope).bytes text)) h
  sorted-below root (Some sorts.Plain) text h = absurd (cc h)

  on-below : (on : Receiver) (text : ℕ) → is_callee b (callee_on (known_at d scope) on text) ≡ true → b < length d.methods
  on-below (receivers.This at) text h = this-below text (method_known d scope.this text) ((known_at d scope).is_method text) refl h
  on-below (receivers.Path path) text h = sorted-below path.root (path_sort (known_at d scope) path) text h

  use-below : (u : Use) → calls_it d scope b u ≡ true → b < length d.methods
  use-below (own_status text) h = absurd (cc h)
  use-below (base_status text) h = absurd (cc h)
  use-below (variable path) h = absurd (cc h)
  use-below (structure name) h = absurd (cc h)
  use-below (method (call on name mark args)) h = on-below on name.text.0 h

  uses-below : (us : List Use) → list_any (calls_it d scope b) us ≡ true → b < length d.methods
  uses-below [] h = absurd (cc h)
  uses-below (u ∷ us) h = elim (either (calls_it d scope b u) (list_any (calls_it d scope b) us) h) [ inl p ↦ use-below u p | inr q ↦ uses-below us q ]

calls-below : (d : Declared) (a b : ℕ) → calls d a b ≡ true → b < length d.methods
calls-below d a b h = by_method (slice_get d.methods a) h
  where
    by_method : (o : Option Method) → method_calls d o b ≡ true → b < length d.methods
    by_method None h = absurd (cc h)
    by_method (Some m) h = uses-below d (method_scope d m) b (method_uses m) h

names-long : (ms : List Method) → length (method_names ms) ≡ length ms
names-long [] = refl
names-long (m ∷ ms) = ap suc (names-long ms)

method-at : (ms : List Method) (i : ℕ) (n : Name) → slice_get (method_names ms) i ≡ Some n → (m : Method) × ((slice_get ms i ≡ Some m) × (m.name ≡ n))
method-at [] i n e = absurd (cc e)
method-at (m ∷ ms) zero n e = (m, (refl, (let same : m.name ≡ n = cc e in same)))
method-at (m ∷ ms) (suc i) n e = method-at ms i n e

name-at : (ms : List Method) (i : ℕ) (m : Method) → slice_get ms i ≡ Some m → slice_get (method_names ms) i ≡ Some m.name
name-at [] i m e = absurd (cc e)
name-at (n ∷ ms) zero m e = let same : n ≡ m = cc e in ap (λ (x : Method). Some x.name) same
name-at (n ∷ ms) (suc i) m e = name-at ms i m e

get-beyond : {X : Type 0} (xs : List X) (a : ℕ) → length xs ≤ a → slice_get xs a ≡ None
get-beyond [] a h = refl
get-beyond (x ∷ xs) zero h = absurd (omega (arith, h))
get-beyond (x ∷ xs) (suc a) h = get-beyond xs a (omega (arith, h))

module _ (d : Declared) (rows : List (List ℕ)) (made : AreRows d rows (length d.methods)) where
  -- Beyond the methods neither goes anywhere.
  goes-is : (a b : ℕ) → goes rows a b ≡ calls d a b
  goes-is a b = by_place (nat_lt a (length d.methods)) refl
    where
      by_place : (t : Bool) → nat_lt a (length d.methods) ≡ t → goes rows a b ≡ calls d a b
      by_place true e = made.made a b (let l : a < length d.methods = grind (arith, nat_tests, e) in l)
      by_place false e =
          let l : length d.methods ≤ a = grind (arith, nat_tests, e) in
          let r : length rows ≤ a = omega (arith, l, made.len) in
          ap (λ x. holds (row_in x) b) (get-beyond rows a r) ∙ ap (λ x. method_calls d x b) (sym (get-beyond d.methods a l))

  pub methods-within : AreWithin rows (length rows)
  methods-within a b h = omega (arith, made.len, calls-below d a b (sym (goes-is a b) ∙ h))

module _ (d : Declared) (rows : List (List ℕ)) (made : AreRows d rows (length d.methods)) (names : List Name) (named : names ≡ method_names d.methods) where
  pub methods-long : length names ≡ length rows
  methods-long = ap length named ∙ names-long d.methods ∙ sym made.len

  calls-from : (s : Refusal) → IsOnCycle N4 rows names s → Recursion d s
  calls-from s r =
      let at = method-at d.methods r.number r.name (ap (λ ns. slice_get ns r.number) (sym named) ∙ r.is) in record {
        number = r.number;
        method = at.0;
        is = at.1.0;
        path = path-map (goes rows) (calls d) (goes-is d rows made) r.number r.number r.path;
        refused = r.refused ∙ ap (λ (n : Name). record { rule = N4; at = n.at }) (sym at.1.1);
      }

  calls-to : (s : Refusal) → Recursion d s → IsOnCycle N4 rows names s
  calls-to s h = record {
    number = h.number;
    name = h.method.name;
    is = ap (λ ns. slice_get ns h.number) named ∙ name-at d.methods h.number h.method h.is;
    path = path-map (calls d) (goes rows) (λ a b. sym (goes-is d rows made a b)) h.number h.number h.path;
    refused = h.refused;
  }

  pub methods-decided : (found all : Option Refusal) → DecidesWith (IsOnCycle N4 rows names) found all → DecidesWith (Recursion d) found all
  methods-decided found all h = DecidesWith-map (IsOnCycle N4 rows names) (Recursion d) found all calls-from calls-to h

-- Both graphs.
struct-breaks : (d : Declared) (s : Refusal) → HoldsItself d s → CycleBreaks d s
struct-breaks d s h = let P : Refusal → Type 0 = CycleBreaks d in subst P (sym h.refused) (holds_itself h.number h.structure h.is h.path)

method-breaks : (d : Declared) (s : Refusal) → Recursion d s → CycleBreaks d s
method-breaks d s h = let P : Refusal → Type 0 = CycleBreaks d in subst P (sym h.refused) (recursion h.number h.method h.is h.path)

cycle-cases : (d : Declared) (s : Refusal) → CycleBreaks d s → HoldsItself d s ⊎ Recursion d s
cycle-cases d _ (recursion a m is way) = inr (record { number = a; method = m; is = is; path = way; refused = refl })
cycle-cases d _ (holds_itself a s is way) = inl (record { number = a; structure = s; is = is; path = way; refused = refl })

pub cycles-decided : (d : Declared) (found last all : Option Refusal) → DecidesWith (HoldsItself d) found last → DecidesWith (Recursion d) last all → DecidesWith (CycleBreaks d) found all
cycles-decided d found last all h k =
    Decides-map (λ s. ((found ≡ Some s) ⊎ HoldsItself d s) ⊎ Recursion d s) (λ s. (found ≡ Some s) ⊎ CycleBreaks d s) all
    (λ s c. elim c [ inl p ↦ elim p [ inl e ↦ inl e | inr q ↦ inr (struct-breaks d s q) ] | inr q ↦ inr (method-breaks d s q) ])
    (λ s c. elim c [ inl e ↦ inl (inl e) | inr b ↦ elim (cycle-cases d s b) [ inl q ↦ inl (inr q) | inr q ↦ inr q ] ])
    (decides-with (λ s. (found ≡ Some s) ⊎ HoldsItself d s) (Recursion d) last all h k)

-- Where nothing was found before.
pub cycles-alone : (d : Declared) (all : Option Refusal) → DecidesWith (CycleBreaks d) None all → Decides (CycleBreaks d) all
cycles-alone d all h =
    Decides-map (λ s. (None ≡ Some s) ⊎ CycleBreaks d s) (CycleBreaks d) all (λ s c. elim c [ inl e ↦ absurd (none-some s e) | inr b ↦ b ]) (λ s b. inr b) h
