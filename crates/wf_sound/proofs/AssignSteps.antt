-- The step of an assignment.
use Rattle.std.proofs.Common.{◌≡◌, ℕ, ◌+◌, ◌-◌, ◌^◌, ◌≤◌, Bool, true, false, not, ◌&&◌, List, Option, Some, None, refl, sym, ap, ◌∙◌, subst, arith}
use Rattle.std.specs.Prelude.{option_and_then, option_map, nat_lt, nat_le, if◌then◌else◌}
use Rattle.std.proofs.lemmas.Bool.{and_parts}
use Rattle.std.proofs.lemmas.Bool.Decides.{nat_tests}
use Rattle.turns.specs.Run.{Go}
use Rattle.wf_text.specs.declared.place.Place.{Place}
use Rattle.wf_text.specs.declared.rules.Rule.TheVariants.{B1}
use Rattle.wf_ast.specs.TypedTree.{Path, local, field, arg, NumType, Arith, plus, minus, NumTree, number, read, element, link, convert, length_of, asked, equal, ValueTree, numeric, logical, state, elements, Target, to_number, to_element, to_flag, to_status, to_slice, Block}
use Rattle.wf_ast.specs.WellTyped.{Context, type_at, is_range, is_number, is_flag, is_status, is_slice, is_pure, is_whole_number, well_num, may_write, may_go_into, well_assigned}
use Rattle.wf_ast.specs.Same.{same_num, same_path, same_arith}
use Rattle.wf_ast.specs.Mentions.{path_is, num_mentions, AgreeBut}
use Rattle.wf_ast.proofs.SameValue.{path_same}
use Rattle.wf_ast.proofs.Depends.{value_depends}
use Rattle.wf_ast.specs.Value.{Value, num, truth_value, status_number, span, State, value, value_of, fitted, applied, only_if, compares}
use Rattle.wf_facts_exprs.specs.Claims.{Claim, compared, single, AllTrue}
use Rattle.wf_facts_exprs.specs.RangeOf.{range_of}
use Rattle.wf_facts_exprs.specs.Demands.{value_refusal}
use Rattle.wf_facts_exprs.specs.LawfulState.{well_claims}
use Rattle.wf_facts_exprs.proofs.Soundness.{SoundCond, SoundStatus, cond-sound, status-sound}
use Rattle.wf_facts.specs.declared.changes.Change.{Change}
use Rattle.wf_facts.specs.declared.changes.Change.TheVariants.{Raised, Lowered}
use Rattle.wf_facts.specs.Changes.{Becomes, speaks_of, TakesPlace}
use Rattle.wf_facts.specs.declared.forms.Form.{Form}
use Rattle.wf_facts.specs.Forms.{form_of, is_length}
use Rattle.wf_facts.specs.FactLists.{added, without, is_variable}
use Rattle.wf_facts.proofs.LawLemmas.{without-true, added-true, changed-true}
use Rattle.wf_meaning.specs.SourceState.{Behind, Remaining}
use Rattle.wf_meaning.specs.World.{World, Body, Vars, set_path, in_range, put_value}
use Rattle.wf_meaning.specs.SourceStep.{Ending, Steps, state_of, at_block, with_some}
use Rattle.wf_bounds_stmts.specs.Requirements.{lies_in, lies_refusal, place_of_number}
use Rattle.wf_bounds_stmts.specs.Targets.{taken_by, target_refusal, thing_at, written_by, unwritten, assign_refusal, known_equal, step_by, step_of, stepped, assigned}
use Rattle.wf_sound.specs.Worlds.{Shape, context_of, IsLawfulBody}
use Rattle.wf_sound.specs.Positions.{is_slice_value}
use Rattle.wf_sound.specs.OneStep.{ComesTo, StandsBefore}
use Rattle.wf_sound.proofs.Views.{lawful-view}
use Rattle.wf_sound.proofs.Drops.{agree-one}
use Rattle.wf_sound.proofs.HandedValues.{demanded, neither, NumberOf, number-of, slice-value}
use Rattle.wf_sound.proofs.Puts.{IsFor, well_target, AgreeButFor, without_some-true, PutIn, put, path-reads, typed}

-- Where there is a value, a step goes on with it.
pub goes-with : {X : Type 0} (P : Steps → Type 0) (o : Option X) (x : X) (go : X → Steps) → o ≡ Some x → P (go x) → P (with_some o go)
unfolding with_some
goes-with P o x go e h = let Q : Option _ → Type 0 = λ o. P (with_some o go) in subst Q (sym e) h

module _ (R : (method : ℕ) → Remaining → Type 0) (shape : Shape) (b : Body) (vars : Vars) (lawful : IsLawfulBody R shape b vars)
    (fs : List Claim) (well : well_claims (context_of b) fs ≡ true) (known : AllTrue (state_of b vars) fs) where
  abbrev c : Context
  c = context_of b

  abbrev s : State
  s = state_of b vars

  -- The value that is assigned is one for its target.
  pub record ValueFor (target : Target) (v : ValueTree) : Type 0 where
    pub value : Value
    pub is : value_of s v ≡ Some value
    pub fits : IsFor b.within shape target value
    pub may_be : well_target c target ≡ true

  both : (p q : Bool) → p ≡ true → q ≡ true → (p && q) ≡ true
  both true q h k = k
  both false q h k = absurd (cc (h))

  lies : (of : NumType) (t : NumTree) → lies_refusal B1 fs (Some of) (numeric t) ≡ None → lies_in of (range_of fs t) ≡ true
  lies of t e = demanded (lies_in of (range_of fs t)) B1 (place_of_number t) e

  pub assign-value : (target : Target) (v : ValueTree) → well_assigned c target v ≡ true → is_slice_value v ≡ true → value_refusal fs v ≡ None → lies_refusal B1 fs (taken_by target) v ≡ None → ValueFor target v
  assign-value (to_number at of path) (numeric t) h u e l =
      let p = and_parts (may_write b.method.mark path) _ h in
      let q = and_parts (well_num c (read at of path)) _ p.1 in
      let r = and_parts (may_go_into of.bits t) _ q.1 in
      let x : NumberOf R shape b vars lawful fs well known of t = number-of R shape b vars lawful fs well known of t r.1 e (lies of t l) in
      record { value = num x.number; is = ap (option_map num) x.is; fits = x.lies; may_be = both (may_write b.method.mark path) _ p.0 q.0 }
  assign-value (to_element at of cells index) (numeric t) h u e l =
      let p = and_parts (not (is_pure b.method.mark)) _ h in
      let q = and_parts (well_num c (element at of cells index)) _ p.1 in
      let r = and_parts (may_go_into of.bits t) _ q.1 in
      let x : NumberOf R shape b vars lawful fs well known of t = number-of R shape b vars lawful fs well known of t r.1 e (lies of t l) in
      record { value = num x.number; is = ap (option_map num) x.is; fits = x.lies; may_be = q.0 }
  assign-value (to_flag at path) (logical t) h u e l =
      let p = and_parts (may_write b.method.mark path) _ h in
      let q = and_parts (is_flag (type_at c path)) _ p.1 in
      let x : SoundCond c s (lawful-view R shape b vars lawful) fs well known t = cond-sound c s (lawful-view R shape b vars lawful) fs well known t q.1 e in
      record { value = truth_value x.answer; is = ap (option_map truth_value) x.is; fits = tt; may_be = both (may_write b.method.mark path) _ p.0 q.0 }
  assign-value (to_status at path) (state t) h u e l =
      let p = and_parts (may_write b.method.mark path) _ h in
      let q = and_parts (is_status (type_at c path)) _ p.1 in
      let x : SoundStatus c s (lawful-view R shape b vars lawful) fs well known t = status-sound c s (lawful-view R shape b vars lawful) fs well known t q.1 in
      record { value = status_number x.number; is = ap (option_map status_number) x.is; fits = tt; may_be = both (may_write b.method.mark path) _ p.0 q.0 }
  assign-value (to_slice at bits path) (elements t) h u e l =
      let p = and_parts (may_write b.method.mark path) _ h in
      let q = and_parts (is_slice bits (type_at c path)) _ p.1 in
      let x = slice-value R shape b vars lawful fs well known bits t q.1 u e in
      record { value = span x.0; is = ap (option_map span) x.1; fits = x.2; may_be = both (may_write b.method.mark path) _ p.0 q.0 }
  assign-value target v h u e l = absurd (cc (h))

  -- What is known of a variable that has been assigned.
  same_thing : (path p : Path) → path_is (thing_at path) p ≡ true → path ≡ p
  same_thing (local m) (local n) h = let e : m ≡ n = grind (arith, nat_tests, h) in ap local e
  same_thing (field m) (field n) h = let e : m ≡ n = grind (arith, nat_tests, h) in ap field e
  same_thing (arg m) (arg n) h = let e : m ≡ n = grind (arith, nat_tests, h) in ap arg e
  same_thing (local m) p h = absurd (cc (h))
  same_thing (field m) p h = absurd (cc (h))
  same_thing (arg m) p h = absurd (cc (h))

  fitted-is : (bits n m : ℕ) → fitted bits n ≡ Some m → m ≡ n
  fitted-is bits n m h = by (nat_lt n (2 ^ bits)) refl
    where
      by : (t : Bool) → nat_lt n (2 ^ bits) ≡ t → m ≡ n
      by true e = let k : Some n ≡ Some m = sym (rw e refl) ∙ h in sym (cc (k))
      by false e = let k : None ≡ Some m = sym (rw e refl) ∙ h in absurd (cc (k))

  less-is : (bits m k n : ℕ) → only_if (nat_le k m) (fitted bits (m - k)) ≡ Some n → m ≡ n + k
  less-is bits m k n h = by (nat_le k m) refl
    where
      by : (t : Bool) → nat_le k m ≡ t → m ≡ n + k
      by true e =
          let q : fitted bits (m - k) ≡ Some n = sym (rw e refl) ∙ h in
          let low : k ≤ m = grind (arith, nat_tests, e) in
          let is = fitted-is bits (m - k) n q in
          omega (arith, is, low)
      by false e = let q : None ≡ Some n = sym (rw e refl) ∙ h in absurd (cc (q))

  -- A change by an operator with a constant.
  pub record Changed (path : Path) (change : Change) (n : ℕ) : Type 0 where
    pub old : ℕ
    pub was : s.number_at path ≡ Some old
    pub becomes : Becomes change old n

  link-value : (op : Arith) (bits k n : ℕ) (path : Path) (change : Change) (o : Option ℕ) → s.number_at path ≡ o → step_by op k ≡ Some change → option_and_then (λ m. applied op bits m k) o ≡ Some n → Changed path change n
  link-value plus bits k n path change (Some m) was c h =
      let e : Raised k ≡ change = cc (c) in
      let P : Change → Type 0 = λ change. Becomes change m n in
      record { old = m; was = was; becomes = subst P e (fitted-is bits (m + k) n h) }
  link-value minus bits k n path change (Some m) was c h =
      let e : Lowered k ≡ change = cc (c) in
      let P : Change → Type 0 = λ change. Becomes change m n in
      record { old = m; was = was; becomes = subst P e (less-is bits m k n h) }
  link-value op bits k n path change None was c h = absurd (cc (h))
  link-value op bits k n path change (Some m) was c h = absurd (cc (c))

  step-changes : (at : Place) (of : NumType) (path : Path) (t : NumTree) (change : Change) (n : ℕ) → step_of (read at of path) t ≡ Some change → value s t ≡ Some n → Changed path change n
  step-changes at of path (link at1 sign op bits joined (read at2 of2 p) (number at3 k)) change n h e = by (same_path path p) refl
    where
      by : (t : Bool) → same_path path p ≡ t → Changed path change n
      by true i =
          let same : path ≡ p = path_same path p i in
          let st : step_by op k ≡ Some change = sym (rw i refl) ∙ h in
          let P : Path → Type 0 = λ p. option_and_then (λ m. applied op bits m k) (s.number_at p) ≡ Some n in
          link-value op bits k n path change (s.number_at path) refl st (subst P (sym same) e)
      by false i = let q : None ≡ Some change = sym (rw i refl) ∙ h in absurd (cc (q))
  step-changes at of path (link at1 sign op bits joined a (number at3 k)) change n h e = absurd (cc (h))
  step-changes at of path t change n h e = absurd (cc (h))

  no_variable : (t : Bool) (x y : Form) → is_variable x ≡ false → is_variable y ≡ false → is_variable (if t then x else y) ≡ true → ⊥
  no_variable true x y h k e = absurd (cc (h, e))
  no_variable false x y h k e = absurd (cc (k, e))

  -- A number that is a variable, and mentions this one, is this one.
  variable-is : (path : Path) (t : NumTree) → is_variable (form_of t) ≡ true → num_mentions (thing_at path) t ≡ true → (at : Place) × (of : NumType) × (t ≡ read at of path)
  variable-is path (read at of p) h e = (at, of, ap (read at of) (sym (same_thing path p e)))
  variable-is path (number at n) h e = absurd (cc (h))
  variable-is path (element at of cells index) h e = absurd (cc (h))
  variable-is path (link at sign op bits joined a c) h e = absurd (no_variable (same_arith op plus && not joined) _ _ refl refl h)
  variable-is path (convert at sign bits a) h e = absurd (cc (h))
  variable-is path (length_of at cells) h e = absurd (cc (h))
  variable-is path (asked at question a) h e = absurd (no_variable (is_length question) _ _ refl refl h)

  module _ (after : State) (path : Path) (n : ℕ) (agree : AgreeBut (thing_at path) s after) (reads : after.number_at path ≡ Some n) where
    takes-place : (change : Change) → Changed path change n → ((form : Form) → speaks_of change form ≡ true → is_variable form ≡ true) → TakesPlace (thing_at path) change s after
    takes-place change x of_variable = record { others = agree; moved = moved }
      where
        moved : (t : NumTree) (m : ℕ) → num_mentions (thing_at path) t ≡ true → speaks_of change (form_of t) ≡ true → value s t ≡ Some m → (n : ℕ) × (value after t ≡ Some n) × Becomes change m n
        moved t m a f e =
            let v = variable-is path t (of_variable (form_of t) f) a in
            let P : NumTree → Type 0 = λ t. value s t ≡ Some m in
            let was : s.number_at path ≡ Some m = subst P v.2 e in
            let same : Some x.old ≡ Some m = sym x.was ∙ was in
            let old : x.old ≡ m = cc (same) in
            let Q : NumTree → Type 0 = λ t. value after t ≡ Some n in
            let B : ℕ → Type 0 = λ m. Becomes change m n in
            (n, subst Q (sym v.2) reads, subst B old x.becomes)

    pub stepped-true : (change : Option Change) → ((x : Change) → change ≡ Some x → Changed path x n × ((form : Form) → speaks_of x form ≡ true → is_variable form ≡ true)) → AllTrue after (stepped fs (thing_at path) change)
    stepped-true None h = without-true (thing_at path) s after agree fs known
    stepped-true (Some x) h = let k = h x refl in changed-true (thing_at path) x s after (takes-place x k.0 k.1) fs known

    same-compares : compares equal n n ≡ true
    same-compares = grind (arith, nat_tests)

    pub known-equal-true : (at : Place) (of : NumType) (t : NumTree) → value s t ≡ Some n → AllTrue after (known_equal (without (thing_at path) fs) (read at of path) (thing_at path) t)
    known-equal-true at of t e = by (num_mentions (thing_at path) t) refl
      where
        left : AllTrue after (without (thing_at path) fs)
        left = without-true (thing_at path) s after agree fs known

        by : (m : Bool) → num_mentions (thing_at path) t ≡ m
            → AllTrue after (if m then without (thing_at path) fs else added (without (thing_at path) fs) (compared (single (read at of path)) equal (single t)))
        by true h = left
        by false h =
            let v : value after t ≡ Some n = sym (value_depends (thing_at path) s after agree t h) ∙ e in
            added-true after (without (thing_at path) fs) (compared (single (read at of path)) equal (single t)) left (rw (reads, v, same-compares) refl)

  variable-step : (op : Arith) (k : ℕ) (x : Change) → step_by op k ≡ Some x → (form : Form) → speaks_of x form ≡ true → is_variable form ≡ true
  variable-step plus k x e form h = let same : Raised k ≡ x = cc (e) in let P : Change → Type 0 = λ x. speaks_of x form ≡ true in subst P (sym same) h
  variable-step minus k x e form h = let same : Lowered k ≡ x = cc (e) in let P : Change → Type 0 = λ x. speaks_of x form ≡ true in subst P (sym same) h
  variable-step op k x e form h = absurd (cc (e))

  step-of-variable : (x : NumTree) (t : NumTree) (change : Change) → step_of x t ≡ Some change → (form : Form) → speaks_of change form ≡ true → is_variable form ≡ true
  step-of-variable x (link at sign op bits joined a (number at' k)) change e form h = by (same_num x a) refl
    where
      by : (t : Bool) → same_num x a ≡ t → is_variable form ≡ true
      by true i = variable-step op k change (sym (rw i refl) ∙ e) form h
      by false i = let q : None ≡ Some change = sym (rw i refl) ∙ e in absurd (cc (q))
  step-of-variable x t change e form h = absurd (cc (e))

  -- The facts after an assignment are true.
  usual-true : (target : Target) (after : State) → AgreeButFor (written_by target) s after → AllTrue after (unwritten target fs)
  usual-true target after agree = without_some-true (written_by target) s after fs agree known

  only-some : {X : Type 0} (t : Bool) (x y : X) → only_if t (Some x) ≡ Some y → x ≡ y
  only-some true x y e = cc (e)
  only-some false x y e = absurd (cc (e))

  number-after : (at : Place) (of : NumType) (path : Path) (n : ℕ) (after : Vars) → well_target c (to_number at of path) ≡ true → put_value b (to_number at of path) (num n) vars ≡ Some after → (state_of b after).number_at path ≡ Some n
  number-after at of path n after h e =
      let p = and_parts (may_write b.method.mark path) _ h in
      let q = and_parts (is_whole_number (read at of path)) _ p.1 in
      let r = and_parts (is_range of) _ q.1 in
      let t = typed R shape b vars lawful (is_number of) (type_at c path) refl r.1 in
      let same : set_path b path (num n) vars ≡ after = only-some (in_range of n) (set_path b path (num n) vars) after e in
      let P : Vars → Type 0 = λ v. (state_of b v).number_at path ≡ Some n in
      subst P same (path-reads R shape b vars lawful path t.0 n p.0 t.1)

  num-is : (t : NumTree) (v : Value) → option_map num (value s t) ≡ Some v → (n : ℕ) × (value s t ≡ Some n) × (v ≡ num n)
  num-is t v e = by (value s t) e
    where
      by : (o : Option ℕ) → option_map num o ≡ Some v → (n : ℕ) × (o ≡ Some n) × (v ≡ num n)
      by None k = absurd (cc (k))
      by (Some n) k = (n, refl, sym (cc (k)))

  assigned-true : (target : Target) (op : Option Arith) (v : ValueTree) (u : Value) (after : Vars) → value_of s v ≡ Some u → well_target c target ≡ true → put_value b target u vars ≡ Some after
      → AgreeButFor (written_by target) s (state_of b after) → AllTrue (state_of b after) (assigned fs target op v)
  assigned-true (to_number at of path) None (numeric t) u after e w p agree =
      let x = num-is t u e in
      let P : Value → Type 0 = λ u. put_value b (to_number at of path) u vars ≡ Some after in
      known-equal-true (state_of b after) path x.0 (agree-one (thing_at path) s (state_of b after) agree) (number-after at of path x.0 after w (subst P x.2 p)) at of t x.1
  assigned-true (to_number at of path) (Some op) (numeric t) u after e w p agree =
      let x = num-is t u e in
      let P : Value → Type 0 = λ u. put_value b (to_number at of path) u vars ≡ Some after in
      stepped-true (state_of b after) path x.0 (agree-one (thing_at path) s (state_of b after) agree) (number-after at of path x.0 after w (subst P x.2 p)) (step_of (read at of path) t)
      (λ change h. (step-changes at of path t change x.0 h x.1, step-of-variable (read at of path) t change h))
  assigned-true target op v u after e w p agree = usual-true target (state_of b after) agree

  -- The step.
  pub assign-step : (target : Target) (op : Option Arith) (v : ValueTree) (rest : Block) (behind : Behind) (E : Ending × World → Type 0) → well_assigned c target v ≡ true → is_slice_value v ≡ true → assign_refusal fs target v ≡ None
      → ComesTo (StandsBefore R shape b rest behind (assigned fs target op v)) E
      (with_some (option_and_then (λ v. put_value b target v vars) (value_of s v)) (λ after. Go (at_block rest behind after)))
  assign-step target op v rest behind E h u e =
      let p = neither (value_refusal fs v) _ e in
      let q = neither (target_refusal fs target) _ p.1 in
      let x : ValueFor target v = assign-value target v h u p.0 q.1 in
      let y : PutIn R shape b target x.value vars = put R shape b vars lawful fs well known target x.value x.may_be x.fits q.0 in
      goes-with (ComesTo (StandsBefore R shape b rest behind (assigned fs target op v)) E) (option_and_then (λ v. put_value b target v vars) (value_of s v)) y.after (λ after. Go (at_block rest behind after))
      (ap (option_and_then (λ v. put_value b target v vars)) x.is ∙ y.is)
      (record { fresh = refl; first = refl; after = refl; lawful = y.lawful; facts = assigned-true target op v x.value y.after x.is x.may_be y.is y.agree })
