-- Values that are written or handed over lie in the types that take them, where the rules refuse nothing of them.
use Rattle.std.proofs.Common.{◌≡◌, ℕ, zero, suc, ◌<◌, ◌≤◌, Bool, true, false, not, ◌&&◌, ◌||◌, List, [], ◌∷◌, map, Option, Some, None, refl, sym, ap, ◌∙◌, subst, nat_eq, arith}
use Rattle.std.specs.Prelude.{slice_get, option_and_then, option_map, if◌then◌else◌}
use Rattle.std.specs.List.{list_all, list_any}
use Rattle.std.proofs.lemmas.Bool.{and_parts}
use Rattle.std.proofs.lemmas.Bool.Decides.{nat_tests}
use Rattle.wf_text.specs.declared.place.Place.{Place}
use Rattle.wf_text.specs.declared.rules.Rule.{Rule}
use Rattle.wf_text.specs.declared.rules.Refusal.{Refusal}
use Rattle.wf_num.specs.Ranges.{Holds}
use Rattle.wf_base.specs.BaseTable.{bits_of}
use Rattle.wf_ast.specs.declared.types.Ty.{Ty}
use Rattle.wf_ast.specs.declared.types.Ty.TheVariants as types
use Rattle.wf_ast.specs.TypedTree.{NumType, NumTree, ValueTree, numeric, logical, state, elements, io, lost}
use Rattle.wf_ast.specs.TypedPackage.{Variable}
use Rattle.wf_ast.specs.WellTyped.{Context, variable_at, is_reader, is_writer, is_unrefined, element_type, well_num, well_slice, may_go_into, fits_type, fit_types}
use Rattle.wf_ast.specs.Value.{Span, Value, num, truth_value, status_number, span, buffer, State, value, span_of, truth_of, status_value, value_of, only_if}
use Rattle.wf_facts_exprs.specs.Claims.{Claim, AllTrue}
use Rattle.wf_facts_exprs.specs.RangeOf.{range_of}
use Rattle.wf_facts_exprs.specs.Demands.{demand, or_else, num_refusal, value_refusal}
use Rattle.wf_facts_exprs.specs.LawfulState.{IsOf, IsLawful, well_claims}
use Rattle.wf_facts_exprs.proofs.Soundness.{Sound, SoundSpan, SoundCond, SoundStatus, num-of, span-sound, cond-sound, status-sound, range-holds}
use Rattle.wf_meaning.specs.SourceState.{Remaining}
use Rattle.wf_meaning.specs.World.{Body, Vars, as_buffer}
use Rattle.wf_meaning.specs.SourceStep.{state_of, fits_argument, values_of}
use Rattle.wf_bounds_stmts.specs.Requirements.{lies_in, number_type, lies_refusal, Handed, handed_refusal, Placed, placed, written_first, first_handed, all_handed, place_of}
use Rattle.wf_ast.specs.StatementOrder.{stands_before}
use Rattle.wf_bounds_stmts.specs.Calls.{handed_to}
use Rattle.wf_sound.specs.Worlds.{Shape, IsSliceOf, numbers_of, IsOfType, HaveTypes, context_of, IsLawfulBody, AreApart}
use Rattle.wf_sound.specs.Positions.{is_slice_value}
use Rattle.wf_ast.specs.WellTyped.{io_handed, is_that, never_again, hands_on_once}
use Rattle.wf_sound.proofs.Views.{lawful-view}
use Rattle.wf_sound.proofs.TypedValues.{lies-of, IsSpanOf, span-slice, span-typed}

pub demanded : (b : Bool) (rule : Rule) (at : Place) → demand b rule at ≡ None → b ≡ true
demanded true rule at h = refl
demanded false rule at h = absurd (cc (h))

pub neither : (p q : Option Refusal) → or_else p q ≡ None → (p ≡ None) × (q ≡ None)
neither None q h = (refl, h)
neither (Some r) q h = absurd (cc (h))

module _ (R : (method : ℕ) → Remaining → Type 0) (shape : Shape) (b : Body) (vars : Vars) (lawful : IsLawfulBody R shape b vars)
    (fs : List Claim) (well : well_claims (context_of b) fs ≡ true) (known : AllTrue (state_of b vars) fs) where
  abbrev c : Context
  c = context_of b

  abbrev s : State
  s = state_of b vars

  seen : IsLawful c s
  seen = lawful-view R shape b vars lawful

  -- A number that the rules take to lie in a type does.
  pub record NumberOf (of : NumType) (t : NumTree) : Type 0 where
    pub number : ℕ
    pub is : value s t ≡ Some number
    pub lies : IsOf of number

  pub number-of : (of : NumType) (t : NumTree) → well_num c t ≡ true → num_refusal fs false t ≡ None → lies_in of (range_of fs t) ≡ true → NumberOf of t
  number-of of t h e l =
      let x : Sound c s seen fs well known false t = num-of c s seen fs well known t h e in
      let r : Holds (range_of fs t) x.number = range-holds c s seen fs well known t h e x.number x.is in
      record { number = x.number; is = x.is; lies = lies-of of (range_of fs t) x.number l r }

  pub record TypedValue (ty : Ty) (t : ValueTree) : Type 0 where
    pub v : Value
    pub is : value_of s t ≡ Some v
    pub lies : IsOfType b.within shape ty v

  pub slice-value : (bits : ℕ) (t : _) → (well_slice c t && nat_eq (element_type t).bits bits) ≡ true → is_unrefined (element_type t) ≡ true → value_refusal fs (elements t) ≡ None
      → (xs : Span) × (span_of s t ≡ Some xs) × IsSliceOf b.within shape bits xs
  slice-value bits t h u e =
      let p = and_parts (well_slice c t) _ h in
      let x : SoundSpan c s seen fs well known t = span-sound c s seen fs well known t p.0 e in
      let y : IsSpanOf b.within shape (element_type t) x.cells = span-typed R shape b vars lawful t x.cells p.0 x.is in
      let same : (element_type t).bits ≡ bits = grind (arith, nat_tests, p.1) in
      let P : ℕ → Type 0 = λ bits. IsSliceOf b.within shape bits x.cells in
      (x.cells, x.is, subst P same (span-slice b.within shape (element_type t) x.cells u y))

  reader_value : (a : ℕ) (ty : Ty) → variable_at b.method.args a ≡ Some ty → (is_reader (Some ty) || is_writer (Some ty)) ≡ true → (k : ℕ) × (s.buffer_number a ≡ Some k) × (k < shape.buffers)
  reader_value a ty h i =
      let v = lawful.args.each a ty h in
      by ty v.0 i v.1 v.2
    where
      by : (ty : Ty) (v : Value) → (is_reader (Some ty) || is_writer (Some ty)) ≡ true → slice_get b.args a ≡ Some v → IsOfType b.within shape ty v → (k : ℕ) × (s.buffer_number a ≡ Some k) × (k < shape.buffers)
      by types.Reader (buffer k) i e l = (k, ap (option_and_then as_buffer) e, l)
      by types.Reader v i e l = absurd l
      by types.Writer (buffer k) i e l = (k, ap (option_and_then as_buffer) e, l)
      by types.Writer v i e l = absurd l
      by ty v i e l = absurd (cc (i))

  io-value : (a : ℕ) (o : Option Ty) → variable_at b.method.args a ≡ o → (is_reader o || is_writer o) ≡ true → (k : ℕ) × (s.buffer_number a ≡ Some k) × (k < shape.buffers)
  io-value a (Some ty) h i = reader_value a ty h i
  io-value a None h i = absurd (cc (i))

  or_left : (p q : Bool) → p ≡ true → (p || q) ≡ true
  or_left true q h = refl
  or_left false q h = absurd (cc (h))

  or_right : (p q : Bool) → q ≡ true → (p || q) ≡ true
  or_right true q h = refl
  or_right false q h = h

  pub value-typed : (ty : Ty) (t : ValueTree) (rule : Rule) → fits_type c ty t ≡ true → is_slice_value t ≡ true → value_refusal fs t ≡ None → lies_refusal rule fs (number_type ty) t ≡ None → TypedValue ty t
  value-typed (types.Num width lo hi) (numeric t) rule h u e l =
      let p = and_parts (may_go_into (bits_of width) t) _ h in
      let x : NumberOf (numbers_of width lo hi) t = number-of (numbers_of width lo hi) t p.1 e (demanded (lies_in (numbers_of width lo hi) (range_of fs t)) rule _ l) in
      record { v = num x.number; is = ap (option_map num) x.is; lies = x.lies }
  value-typed types.Flag (logical t) rule h u e l =
      let x : SoundCond c s seen fs well known t = cond-sound c s seen fs well known t h e in
      record { v = truth_value x.answer; is = ap (option_map truth_value) x.is; lies = tt }
  value-typed types.Status (state t) rule h u e l =
      let x : SoundStatus c s seen fs well known t = status-sound c s seen fs well known t h in
      record { v = status_number x.number; is = ap (option_map status_number) x.is; lies = tt }
  value-typed (types.Slice width) (elements t) rule h u e l =
      let x = slice-value (bits_of width) t h u e in
      record { v = span x.0; is = ap (option_map span) x.1; lies = x.2 }
  value-typed types.Reader (io at a) rule h u e l =
      let x = io-value a (variable_at b.method.args a) refl (or_left _ (is_writer (variable_at b.method.args a)) h) in
      record { v = buffer x.0; is = ap (option_map buffer) x.1; lies = x.2 }
  value-typed types.Writer (io at a) rule h u e l =
      let x = io-value a (variable_at b.method.args a) refl (or_right (is_reader (variable_at b.method.args a)) _ h) in
      record { v = buffer x.0; is = ap (option_map buffer) x.1; lies = x.2 }
  value-typed ty t rule h u e l = absurd (cc (h))

  -- Arguments: none of them is refused.
  abbrev pub Accepted : Rule → List Handed → Type 0
  Accepted rule [] = Unit {0}
  Accepted rule (h ∷ hs) = (handed_refusal rule fs h ≡ None) × Accepted rule hs

  both-none : (p q : Option Placed) → written_first p q ≡ None → (p ≡ None) × (q ≡ None)
  both-none None q e = (refl, e)
  both-none (Some p) None e = absurd (cc (e))
  both-none (Some p) (Some q) e = absurd (by (stands_before q.0 p.0) e)
    where
      by : (t : Bool) → (if t then Some q else Some p) ≡ None → ⊥
      by true k = cc (k)
      by false k = cc (k)

  placed-none : (at : Place) (r : Option Refusal) → placed at r ≡ None → r ≡ None
  placed-none at None e = refl
  placed-none at (Some r) e = absurd (cc (e))

  accepted : (rule : Rule) (found : Option Placed) (hs : List Handed) → first_handed rule fs found hs ≡ None → (found ≡ None) × Accepted rule hs
  accepted rule found [] e = (e, tt)
  accepted rule found (h ∷ hs) e =
      let i = accepted rule (written_first found (placed (place_of h.1) (handed_refusal rule fs h))) hs e in
      let p = both-none found (placed (place_of h.1) (handed_refusal rule fs h)) i.0 in
      (p.0, (placed-none (place_of h.1) (handed_refusal rule fs h) p.1, i.1))

  pub all-accepted : (rule : Rule) (hs : List Handed) → all_handed rule fs hs ≡ None → Accepted rule hs
  all-accepted rule hs e = (accepted rule None hs (by (first_handed rule fs None hs) e)).1
    where
      by : (o : Option Placed) → option_map (λ p. p.1) o ≡ None → o ≡ None
      by None k = refl
      by (Some p) k = absurd (cc (k))

  -- The arguments' values, each of its declared type.
  pub record ValuesOf (declared : List Variable) (ts : List ValueTree) : Type 0 where
    pub values : List Value
    pub is : values_of s declared ts ≡ Some values
    pub lie : HaveTypes b.within shape declared values

  fits-itself : (ty : Ty) (v : Value) → IsOfType b.within shape ty v → fits_argument ty v ≡ true
  fits-itself (types.Num width lo hi) (num n) h = let a : lo ≤ n = h.above in let c : n ≤ hi = h.below in grind (arith, nat_tests, a, c)
  fits-itself (types.Num width lo hi) v h = absurd h
  fits-itself ty v h = refl

  one-more : (x : Variable) (v : Value) (declared : List Variable) (values : List Value) → IsOfType b.within shape x.ty v → HaveTypes b.within shape declared values → HaveTypes b.within shape (x ∷ declared) (v ∷ values)
  one-more x v declared values h k = record { each = each }
    where
      each : (n : ℕ) (ty : Ty) → variable_at (x ∷ declared) n ≡ Some ty → (u : Value) × (slice_get (v ∷ values) n ≡ Some u) × IsOfType b.within shape ty u
      each zero ty e =
          let same : x.ty ≡ ty = cc (e) in
          let P : Ty → Type 0 = λ ty. IsOfType b.within shape ty v in
          (v, refl, subst P same h)
      each (suc n) ty e = k.each n ty e

  pub values-typed : (rule : Rule) (declared : List Variable) (ts : List ValueTree) → fit_types c declared ts ≡ true → list_all is_slice_value ts ≡ true
      → Accepted rule (handed_to (map (λ x. x.ty) declared) ts) → ValuesOf declared ts
  values-typed rule [] [] h u e = record { values = []; is = refl; lie = record { each = λ n ty k. absurd (cc (k)) } }
  values-typed rule (x ∷ xs) (t ∷ ts) h u e =
      let p = and_parts (fits_type c x.ty t) _ h in
      let q = and_parts (is_slice_value t) _ u in
      let r = neither (value_refusal fs t) _ e.0 in
      let first : TypedValue x.ty t = value-typed x.ty t rule p.0 q.0 r.0 r.1 in
      let rest : ValuesOf xs ts = values-typed rule xs ts p.1 q.1 e.1 in
      record {
        values = first.v ∷ rest.values;
        is = rw (first.is, fits-itself x.ty first.v first.lies, rest.is) refl;
        lie = one-more x first.v xs rest.values first.lies rest.lie;
      }
  values-typed rule [] (t ∷ ts) h u e = absurd (cc (h))
  values-typed rule (x ∷ xs) [] h u e = absurd (cc (h))

  -- A buffer among the values of arguments comes from a reader or writer that is handed on.
  pub record HandedOn (ts : List ValueTree) (i k : ℕ) : Type 0 where
    pub t : ValueTree
    pub there : slice_get ts i ≡ Some t
    pub a : ℕ
    pub is : io_handed t ≡ Some a
    pub buffer_is : slice_get b.args a ≡ Some (buffer k)

  from-named : (o : Option Value) (k : ℕ) → option_map buffer (option_and_then as_buffer o) ≡ Some (buffer k) → o ≡ Some (buffer k)
  from-named None k e = absurd (cc (e))
  from-named (Some (buffer j)) k e = cc (e)
  from-named (Some v) k e = absurd (cc (e))

  not-a-buffer : {X : Type 0} (f : X → Value) (o : Option X) (k : ℕ) → ((x : X) → f x ≡ buffer k → ⊥) → option_map f o ≡ Some (buffer k) → ⊥
  not-a-buffer f None k h e = cc (e)
  not-a-buffer f (Some x) k h e = h x (cc (e))

  from-io : (t : ValueTree) (k : ℕ) → value_of s t ≡ Some (buffer k) → (a : ℕ) × (io_handed t ≡ Some a) × (slice_get b.args a ≡ Some (buffer k))
  from-io (io at a) k e = (a, refl, from-named (slice_get b.args a) k e)
  from-io (numeric t) k e = absurd (not-a-buffer num (value s t) k (λ x h. cc (h)) e)
  from-io (logical t) k e = absurd (not-a-buffer truth_value (truth_of s t) k (λ x h. cc (h)) e)
  from-io (state t) k e = absurd (not-a-buffer status_number (status_value s t) k (λ x h. cc (h)) e)
  from-io (elements t) k e = absurd (not-a-buffer span (span_of s t) k (λ x h. cc (h)) e)
  from-io lost k e = absurd (cc (e))

  -- What `values_of` gives are the values, one by one.
  pub record Headed (x : Variable) (t : ValueTree) (xs : List Variable) (ts : List ValueTree) (vs : List Value) : Type 0 where
    pub v : Value
    pub rest : List Value
    pub is : value_of s t ≡ Some v
    pub others : values_of s xs ts ≡ Some rest
    pub whole : vs ≡ v ∷ rest

  only-some : (test : Bool) (v w : Value) → only_if test (Some v) ≡ Some w → v ≡ w
  only-some true v w e = cc (e)
  only-some false v w e = absurd (cc (e))

  headed : (x : Variable) (t : ValueTree) (xs : List Variable) (ts : List ValueTree) (vs : List Value) → values_of s (x ∷ xs) (t ∷ ts) ≡ Some vs → Headed x t xs ts vs
  headed x t xs ts vs e = by (value_of s t) (values_of s xs ts) refl refl
    where
      by : (o : Option Value) (p : Option (List Value)) → value_of s t ≡ o → values_of s xs ts ≡ p → Headed x t xs ts vs
      by None p i j = let k : None ≡ Some vs = sym (rw i refl) ∙ e in absurd (cc (k))
      by (Some v) p i j = fits (fits_argument x.ty v) refl
        where
          fits : (test : Bool) → fits_argument x.ty v ≡ test → Headed x t xs ts vs
          fits false f = let k : None ≡ Some vs = sym (rw (i, f) refl) ∙ e in absurd (cc (k))
          fits true f = rest p j
            where
              rest : (p : Option (List Value)) → values_of s xs ts ≡ p → Headed x t xs ts vs
              rest None j = let k : None ≡ Some vs = sym (rw (i, f, j) refl) ∙ e in absurd (cc (k))
              rest (Some ws) j = let k : Some (v ∷ ws) ≡ Some vs = sym (rw (i, f, j) refl) ∙ e in record { v = v; rest = ws; is = i; others = j; whole = sym (cc (k)) }

  pub handed-on : (declared : List Variable) (ts : List ValueTree) (vs : List Value) (i k : ℕ) → values_of s declared ts ≡ Some vs → slice_get vs i ≡ Some (buffer k) → HandedOn ts i k
  handed-on [] [] vs i k e h =
      let none : [] ≡ vs = cc (e) in
      let P : List Value → Type 0 = λ vs. slice_get vs i ≡ Some (buffer k) in
      absurd (nothing (subst P (sym none) h))
    where
      nothing : slice_get {X = Value} [] i ≡ Some (buffer k) → ⊥
      nothing h = cc (h)
  handed-on [] (t ∷ ts) vs i k e h = absurd (cc (e))
  handed-on (x ∷ xs) [] vs i k e h = absurd (cc (e))
  handed-on (x ∷ xs) (t ∷ ts) vs i k e h =
      let p : Headed x t xs ts vs = headed x t xs ts vs e in
      let P : List Value → Type 0 = λ vs. slice_get vs i ≡ Some (buffer k) in
      by i p (λ j g. handed-on xs ts p.rest j k p.others g) (subst P p.whole h)
    where
      by : (i : ℕ) (p : Headed x t xs ts vs) → ((j : ℕ) → slice_get p.rest j ≡ Some (buffer k) → HandedOn ts j k) → slice_get (p.v ∷ p.rest) i ≡ Some (buffer k) → HandedOn (t ∷ ts) i k
      by zero p further h =
          let same : p.v ≡ buffer k = cc (h) in
          let f = from-io t k (p.is ∙ ap (λ v. Some v) same) in
          record { t = t; there = refl; a = f.0; is = f.1; buffer_is = f.2 }
      by (suc i) p further h =
          let f : HandedOn ts i k = further i h in
          record { t = f.t; there = f.there; a = f.a; is = f.is; buffer_is = f.buffer_is }

  -- No buffer stands twice among them.
  again-false : (a : ℕ) (ts : List ValueTree) (j : ℕ) (t : ValueTree) → slice_get ts j ≡ Some t → io_handed t ≡ Some a → list_any (λ t. is_that a (io_handed t)) ts ≡ true
  again-false a [] j t h e = absurd (cc (h))
  again-false a (u ∷ ts) zero t h e =
      let same : u ≡ t = cc (h) in
      let P : ValueTree → Type 0 = λ t. (is_that a (io_handed t) || list_any (λ t. is_that a (io_handed t)) ts) ≡ true in
      subst P (sym same) (rw e (grind (arith, nat_tests)))
  again-false a (u ∷ ts) (suc j) t h e = or_right (is_that a (io_handed u)) _ (again-false a ts j t h e)

  once : (ts : List ValueTree) (i j a : ℕ) (t u : ValueTree) → hands_on_once ts ≡ true → slice_get ts i ≡ Some t → slice_get ts j ≡ Some u → io_handed t ≡ Some a → io_handed u ≡ Some a → i ≡ j
  once [] i j a t u h p q x y = absurd (cc (p))
  once (v ∷ ts) zero zero a t u h p q x y = refl
  once (v ∷ ts) zero (suc j) a t u h p q x y =
      let same : v ≡ t = cc (p) in
      let k = and_parts (never_again (io_handed v) ts) _ h in
      absurd (twice (io_handed v) (ap io_handed same ∙ x) k.0 (again-false a ts j u q y))
    where
      twice : (o : Option ℕ) → o ≡ Some a → never_again o ts ≡ true → list_any (λ t. is_that a (io_handed t)) ts ≡ true → ⊥
      twice o is n m =
          let P : Option ℕ → Type 0 = λ o. never_again o ts ≡ true in
          let r : not (list_any (λ t. is_that a (io_handed t)) ts) ≡ true = subst P is n in
          let z : not true ≡ true = sym (ap not m) ∙ r in
          cc (z)
  once (v ∷ ts) (suc i) zero a t u h p q x y =
      let same : v ≡ u = cc (q) in
      let k = and_parts (never_again (io_handed v) ts) _ h in
      absurd (twice (io_handed v) (ap io_handed same ∙ y) k.0 (again-false a ts i t p x))
    where
      twice : (o : Option ℕ) → o ≡ Some a → never_again o ts ≡ true → list_any (λ t. is_that a (io_handed t)) ts ≡ true → ⊥
      twice o is n m =
          let P : Option ℕ → Type 0 = λ o. never_again o ts ≡ true in
          let r : not (list_any (λ t. is_that a (io_handed t)) ts) ≡ true = subst P is n in
          let z : not true ≡ true = sym (ap not m) ∙ r in
          cc (z)
  once (v ∷ ts) (suc i) (suc j) a t u h p q x y = ap suc (once ts i j a t u (and_parts (never_again (io_handed v) ts) _ h).1 p q x y)

  pub values-apart : (declared : List Variable) (ts : List ValueTree) (vs : List Value) → AreApart b.args → hands_on_once ts ≡ true → values_of s declared ts ≡ Some vs → AreApart vs
  values-apart declared ts vs apart h e = record {
    buffers = λ i j k p q.
        let x : HandedOn ts i k = handed-on declared ts vs i k e p in
        let y : HandedOn ts j k = handed-on declared ts vs j k e q in
        once ts i j x.a x.t y.t h x.there y.there x.is (y.is ∙ ap (λ a. Some a) (apart.buffers y.a x.a k y.buffer_is x.buffer_is));
  }
