-- The passes over lists of names find what the rules say.
use Rattle.std.proofs.Common.{◌≡◌, ◌⊎◌, ℕ, zero, suc, ◌+◌, ◌<◌, Bool, true, false, List, [], ◌∷◌, map, length, Option, Some, None, slice_get, nat_eq, refl, sym, ap, ◌∙◌, subst, inl, inr, arith}
use Rattle.indexmap.specs.IndexSet.{insert_key}
use Rattle.wf_text.specs.declared.place.Place.{Place}
use Rattle.wf_text.specs.declared.rules.Rule.{Rule}
use Rattle.wf_text.specs.declared.rules.Rule.TheVariants.{N2, N3}
use Rattle.wf_text.specs.declared.rules.Refusal.{Refusal}
use Rattle.wf_ast.specs.declared.numbers.TextId.{TextId}
use Rattle.wf_ast.specs.declared.parsed.Name.{Name}
use Rattle.graphs.specs.Graphs.{holds, AreCycles}
use Rattle.wf_names_rules.specs.Reserved.{is_reserved, is_initialize}
use Rattle.wf_names_rules.specs.Passes.{refused_if, doubles_of, bytes_at, reserved_name, reserved_of, initialize, initializes_of, is_flagged, flagged_from}
use Rattle.wf_names_rules.specs.NameRules.{twice}
use Rattle.wf_names_rules.specs.Found.{Finds, RepeatsName, ReservesName, InitializesName, IsOnCycle}
use Rattle.wf_names_rules.proofs.InsertLemmas.{insert-keeps, insert-has, insert-only}

refusal : Rule → Place → Refusal
refusal rule at = record { rule = rule; at = at }

refused-cause : (t : Bool) (rule : Rule) (at : Place) (s : Refusal) → refused_if t rule at ≡ Some s → (t ≡ true) × (s ≡ refusal rule at)
unfolding refusal
refused-cause true rule at s e = (refl, (let same : record { rule = rule; at = at } ≡ s = cc e in sym same))
refused-cause false rule at s e = absurd (cc e)

inner : (x y : Option Refusal) → Some x ≡ Some y → x ≡ y
inner x y e = cc e

-- Names declared twice.
double_seen : (seen : List ℕ) (names : List Name) (j : ℕ) (n : Name) → slice_get names j ≡ Some n → holds seen n.text.0 ≡ true
    → slice_get (doubles_of seen names) j ≡ Some (Some (twice n))
double_seen seen [] j n e h = absurd (cc e)
double_seen seen (m ∷ ms) zero n e h =
    let same : m ≡ n = cc e in
    let P : Name → Type 0 = λ x. Some (refused_if (holds seen x.text.0) N2 x.at) ≡ Some (Some (twice n)) in
    subst P (sym same) (ap (λ t. Some (refused_if t N2 n.at)) h)
double_seen seen (m ∷ ms) (suc j) n e h = double_seen (insert_key nat_eq seen m.text.0) ms j n e (insert-keeps seen m.text.0 n.text.0 h)

double_found : (seen : List ℕ) (names : List Name) (i j : ℕ) (a b : Name) → i < j → slice_get names i ≡ Some a → slice_get names j ≡ Some b → a.text ≡ b.text
    → slice_get (doubles_of seen names) j ≡ Some (Some (twice b))
double_found seen [] i j a b l e f t = absurd (cc e)
double_found seen (m ∷ ms) i zero a b l e f t = absurd (omega (arith, l))
double_found seen (m ∷ ms) zero (suc j) a b l e f t =
    let same : m ≡ a = cc e in
    let texts : m.text.0 ≡ b.text.0 = ap (λ (n : Name). n.text.0) same ∙ ap (λ (x : TextId). x.0) t in
    let P : ℕ → Type 0 = λ x. holds (insert_key nat_eq seen m.text.0) x ≡ true in
    double_seen (insert_key nat_eq seen m.text.0) ms j b f (subst P texts (insert-has seen m.text.0))
double_found seen (m ∷ ms) (suc i) (suc j) a b l e f t = double_found (insert_key nat_eq seen m.text.0) ms i j a b (omega (arith, l)) e f t

record Earlier (names : List Name) (j : ℕ) (n : Name) : Type 0 where
  i : ℕ
  a : Name
  below : i < j
  is : slice_get names i ≡ Some a
  same : a.text ≡ n.text

record Cause (seen : List ℕ) (names : List Name) (j : ℕ) (s : Refusal) : Type 0 where
  n : Name
  at : slice_get names j ≡ Some n
  is : s ≡ twice n
  earlier : (holds seen n.text.0 ≡ true) ⊎ Earlier names j n

double_cause : (seen : List ℕ) (names : List Name) (j : ℕ) (s : Refusal) → slice_get (doubles_of seen names) j ≡ Some (Some s) → Cause seen names j s
unfolding refusal
double_cause seen [] j s e = absurd (cc e)
double_cause seen (m ∷ ms) zero s e =
    let r = refused-cause (holds seen m.text.0) N2 m.at s (inner (refused_if (holds seen m.text.0) N2 m.at) (Some s) e) in
    record { n = m; at = refl; is = r.1; earlier = inl r.0 }
double_cause seen (m ∷ ms) (suc j) s e =
    let r = double_cause (insert_key nat_eq seen m.text.0) ms j s e in
    record { n = r.n; at = r.at; is = r.is; earlier = earlier_in r.n r.earlier }
  where
    id : ℕ → TextId
    id x = record { 0 = x }

    earlier_in : (n : Name) → (holds (insert_key nat_eq seen m.text.0) n.text.0 ≡ true) ⊎ Earlier ms j n → (holds seen n.text.0 ≡ true) ⊎ Earlier (m ∷ ms) (suc j) n
    earlier_in n (inl p) = elim (insert-only seen m.text.0 n.text.0 p) [
      | inl k ↦ inl k
      | inr t ↦ inr (record { i = 0; a = m; below = omega arith; is = refl; same = let made : ℕ → TextId = λ x. record { 0 = x } in sym (ap made t) })
    ]
    earlier_in n (inr q) = inr (record { i = suc q.i; a = q.a; below = omega (arith, q.below); is = q.is; same = q.same })

pub doubles-sound : (names : List Name) (s : Refusal) → Finds (doubles_of [] names) s → RepeatsName names s
doubles-sound names s f =
    let r = double_cause [] names f.0 s f.1 in
    elim r.earlier [
      | inl p ↦ absurd (cc p)
      | inr q ↦ (r.n, (record { first = q.i; second = f.0; earlier = q.a; order = q.below; at_first = q.is; at_second = r.at; same = q.same }, r.is))
    ]

pub doubles-complete : (names : List Name) (s : Refusal) → RepeatsName names s → Finds (doubles_of [] names) s
doubles-complete names s r =
    let h = r.1.0 in
    (h.second, double_found [] names h.first h.second h.earlier r.0 h.order h.at_first h.at_second h.same ∙ ap (λ x. Some (Some x)) (sym r.1.1))

-- Items of a list, one by one.
mapped_cause : (f : Name → Option Refusal) (names : List Name) (i : ℕ) (y : Option Refusal) → slice_get (map f names) i ≡ Some y → (n : Name) × ((slice_get names i ≡ Some n) × (f n ≡ y))
mapped_cause f [] i y e = absurd (cc e)
mapped_cause f (n ∷ ns) zero y e = (n, (refl, inner (f n) y e))
mapped_cause f (n ∷ ns) (suc i) y e = mapped_cause f ns i y e

mapped_at : (f : Name → Option Refusal) (names : List Name) (i : ℕ) (n : Name) → slice_get names i ≡ Some n → slice_get (map f names) i ≡ Some (f n)
mapped_at f [] i n e = absurd (cc e)
mapped_at f (m ∷ ms) zero n e = let same : m ≡ n = cc e in ap (λ x. Some (f x)) same
mapped_at f (m ∷ ms) (suc i) n e = mapped_at f ms i n e

pub reserved-sound : (texts : List (List ℕ)) (names : List Name) (s : Refusal) → Finds (reserved_of texts names) s → ReservesName texts names s
unfolding refusal
reserved-sound texts names s f =
    let r = mapped_cause (reserved_name texts) names f.0 (Some s) f.1 in
    let c = refused-cause (is_reserved (bytes_at texts r.0)) N3 r.0.at s r.1.1 in
    record { place = f.0; name = r.0; is = r.1.0; reserved = c.0; refused = c.1 }

pub reserved-complete : (texts : List (List ℕ)) (names : List Name) (s : Refusal) → ReservesName texts names s → Finds (reserved_of texts names) s
reserved-complete texts names s r =
    (r.place, mapped_at (reserved_name texts) names r.place r.name r.is ∙ ap (λ t. Some (refused_if t N3 r.name.at)) r.reserved ∙ ap (λ x. Some (Some x)) (sym r.refused))

pub initializes-sound : (texts : List (List ℕ)) (names : List Name) (s : Refusal) → Finds (initializes_of texts names) s → InitializesName texts names s
unfolding refusal
initializes-sound texts names s f =
    let r = mapped_cause (initialize texts) names f.0 (Some s) f.1 in
    let c = refused-cause (is_initialize (bytes_at texts r.0)) N3 r.0.at s r.1.1 in
    record { place = f.0; name = r.0; is = r.1.0; initialize = c.0; refused = c.1 }

pub initializes-complete : (texts : List (List ℕ)) (names : List Name) (s : Refusal) → InitializesName texts names s → Finds (initializes_of texts names) s
initializes-complete texts names s r =
    (r.place, mapped_at (initialize texts) names r.place r.name r.is ∙ ap (λ t. Some (refused_if t N3 r.name.at)) r.initialize ∙ ap (λ x. Some (Some x)) (sym r.refused))

-- Numbers that are flagged.
flagged_cause : (rule : Rule) (a : ℕ) (flags : List Bool) (names : List Name) (i : ℕ) (s : Refusal) → slice_get (flagged_from rule a flags names) i ≡ Some (Some s)
    → (n : Name) × ((slice_get names i ≡ Some n) × ((is_flagged (slice_get flags (a + i)) ≡ true) × (s ≡ refusal rule n.at)))
unfolding refusal
flagged_cause rule a flags [] i s e = absurd (cc e)
flagged_cause rule a flags (n ∷ ns) zero s e =
    let c = refused-cause (is_flagged (slice_get flags a)) rule n.at s (inner (refused_if (is_flagged (slice_get flags a)) rule n.at) (Some s) e) in
    let spot : a ≡ a + 0 = omega arith in
    let P : ℕ → Type 0 = λ b. is_flagged (slice_get flags b) ≡ true in
    (n, (refl, (subst P spot c.0, c.1)))
flagged_cause rule a flags (n ∷ ns) (suc i) s e =
    let r = flagged_cause rule (a + 1) flags ns i s e in
    let spot : a + 1 + i ≡ a + suc i = omega arith in
    let P : ℕ → Type 0 = λ b. is_flagged (slice_get flags b) ≡ true in
    (r.0, (r.1.0, (subst P spot r.1.1.0, r.1.1.1)))

flagged_at : (rule : Rule) (a : ℕ) (flags : List Bool) (names : List Name) (i : ℕ) (n : Name) → slice_get names i ≡ Some n → is_flagged (slice_get flags (a + i)) ≡ true
    → slice_get (flagged_from rule a flags names) i ≡ Some (Some (refusal rule n.at))
unfolding refusal
flagged_at rule a flags [] i n e h = absurd (cc e)
flagged_at rule a flags (m ∷ ms) zero n e h =
    let same : m ≡ n = cc e in
    let spot : a + 0 ≡ a = omega arith in
    let P : ℕ → Type 0 = λ b. is_flagged (slice_get flags b) ≡ true in
    ap (λ t. Some (refused_if t rule m.at)) (subst P spot h) ∙ ap (λ (x : Name). Some (Some (record { rule = rule; at = x.at }))) same
flagged_at rule a flags (m ∷ ms) (suc i) n e h =
    let spot : a + suc i ≡ a + 1 + i = omega arith in
    let P : ℕ → Type 0 = λ b. is_flagged (slice_get flags b) ≡ true in
    flagged_at rule (a + 1) flags ms i n e (subst P spot h)

flag_true : (flag : Option Bool) → is_flagged flag ≡ true → flag ≡ Some true
flag_true None h = absurd (cc h)
flag_true (Some true) h = refl
flag_true (Some false) h = absurd (cc h)

within : (names : List Name) (i : ℕ) (n : Name) → slice_get names i ≡ Some n → i < length names
within [] i n e = absurd (cc e)
within (m ∷ ms) zero n e = omega arith
within (m ∷ ms) (suc i) n e = omega (arith, within ms i n e)

pub flagged-sound : (rule : Rule) (rows : List (List ℕ)) (flags : List Bool) (names : List Name) (s : Refusal) → AreCycles rows flags (length names) → Finds (flagged_from rule 0 flags names) s → IsOnCycle rule rows names s
unfolding refusal
flagged-sound rule rows flags names s h f =
    let r = flagged_cause rule 0 flags names f.0 s f.1 in
    let spot : 0 + f.0 ≡ f.0 = omega arith in
    let P : ℕ → Type 0 = λ b. is_flagged (slice_get flags b) ≡ true in
    record { number = f.0; name = r.0; is = r.1.0; path = h.sound f.0 (flag_true (slice_get flags f.0) (subst P spot r.1.1.0)); refused = r.1.1.1 }

pub flagged-complete : (rule : Rule) (rows : List (List ℕ)) (flags : List Bool) (names : List Name) (s : Refusal) → AreCycles rows flags (length names) → IsOnCycle rule rows names s → Finds (flagged_from rule 0 flags names) s
unfolding refusal
flagged-complete rule rows flags names s h r =
    let flag : slice_get flags r.number ≡ Some true = h.complete r.number (within names r.number r.name r.is) r.path in
    let spot : r.number ≡ 0 + r.number = omega arith in
    let P : ℕ → Type 0 = λ b. is_flagged (slice_get flags b) ≡ true in
    (r.number, flagged_at rule 0 flags names r.number r.name r.is (subst P spot (ap is_flagged flag)) ∙ ap (λ x. Some (Some x)) (sym r.refused))
