-- Writing nothing, and writing one thing after another.
use Rattle.std.proofs.Common.{◌≡◌, ℕ, ◌+◌, ◌-◌, ◌^◌, ◌<◌, ◌≤◌, ◌++◌, List, [], ◌∷◌, length, Bool, true, false, Option, None, Some, refl, sym, ◌∙◌, ap, subst, arith, length-append, append_assoc, inl, inr}
use Rattle.std.specs.Io.KnownBytes.{Appends}
use Rattle.std.proofs.lemmas.Bool.{cases_order}
use Rattle.pens.specs.Pens.{PenState, KeepsLongest, EndsIn, Flows, WroteFrom, Wrote, cut}

append_nil : (xs : List ℕ) → xs ++ [] ≡ xs
append_nil [] = refl
append_nil (x ∷ xs) = ap (λ ys. x ∷ ys) (append_nil xs)

pub written_nothing : (o : Option (List ℕ)) → Appends o o []
written_nothing None = tt
written_nothing (Some w) = sym (append_nil w)

pub written_twice : (a b c : Option (List ℕ)) (x y : List ℕ) → Appends a b x → Appends b c y → Appends a c (x ++ y)
written_twice None b c x y p q = tt
written_twice (Some a) None c x y p q = absurd p
written_twice (Some a) (Some b) None x y p q = absurd q
written_twice (Some a) (Some b) (Some c) x y p q = q ∙ (ap (λ zs. zs ++ y) p ∙ append_assoc a x y)

pub longest_same : (o : Option ℕ) → KeepsLongest o o
longest_same o most is = (most, is, omega arith, omega arith)

longest_twice : (a b c : Option ℕ) → KeepsLongest a b → KeepsLongest b c → KeepsLongest a c
longest_twice a b c first second most is =
    let p = first most is in
    let q = second p.0 p.1 in
    (q.0, q.1, omega (arith, p.2, q.2), omega (arith, p.3, q.3))

nothing_from : (a : PenState) (f : Bool) → a.sent < 2 ^ 64 → a.failed ≡ f → WroteFrom f a a []
nothing_from a true small e = refl
nothing_from a false small e = record {
  taken = [];
  left = a.waiting;
  flow = sym (append_nil a.waiting);
  written = written_nothing a.written;
  sent = omega (arith, small);
  longest = longest_same a.longest;
  ending = subst (λ (f : Bool). EndsIn f a a [] a.waiting (length a.waiting + 0)) (sym e) (refl, refl, λ room is fits. is ∙ ap Some (omega arith));
}

pub writes_nothing : (a : PenState) → a.sent < 2 ^ 64 → Wrote a a []
writes_nothing a small = nothing_from a a.failed small refl

-- after a failed put
ending_dropped : (a b : PenState) (x y taken left : List ℕ) → EndsIn true a b taken left (length a.waiting + length x) → EndsIn true a b taken (left ++ y) (length a.waiting + length (x ++ y))
ending_dropped a b x y taken left ends = (ends.0, λ room is. omega (arith, ends.1 room is, length-append x y))

flows_dropped : (a b : PenState) (x y : List ℕ) → b.failed ≡ true → Flows a b x → Flows a b (x ++ y)
flows_dropped a b x y e f = record {
  taken = f.taken;
  left = f.left ++ y;
  flow = sym (append_assoc f.taken f.left y) ∙ (ap (λ zs. zs ++ y) f.flow ∙ append_assoc a.waiting x y);
  written = f.written;
  sent = f.sent;
  longest = f.longest;
  ending = subst (λ (g : Bool). EndsIn g a b f.taken (f.left ++ y) (length a.waiting + length (x ++ y))) (sym e) (ending_dropped a b x y f.taken f.left (subst (λ (g : Bool). EndsIn g a b f.taken f.left (length a.waiting + length x)) e f.ending));
}

ending_joined : (a b c : PenState) (x y t1 t2 l2 : List ℕ) (h : Bool) → t1 ++ b.waiting ≡ a.waiting ++ x → b.faults ≡ a.faults → ((room : ℕ) → a.room ≡ Some room → length a.waiting + length x ≤ room → b.room ≡ Some (room - length t1)) → EndsIn h b c t2 l2 (length b.waiting + length y) → EndsIn h a c (t1 ++ t2) l2 (length a.waiting + length (x ++ y))
ending_joined a b c x y t1 t2 l2 false flow faults room ends =
    let sizes : length t1 + length b.waiting ≡ length a.waiting + length x = sym (length-append t1 b.waiting) ∙ (ap length flow ∙ length-append a.waiting x) in (
      ends.0,
      ends.1 ∙ faults,
      λ r is fits.
          let here = room r is (omega (arith, fits, length-append x y)) in
          let there = ends.2 (r - length t1) here (omega (arith, fits, sizes, length-append x y)) in
          there ∙ ap Some (omega (arith, length-append t1 t2)),
    )
ending_joined a b c x y t1 t2 l2 true flow faults room ends =
    let sizes : length t1 + length b.waiting ≡ length a.waiting + length x = sym (length-append t1 b.waiting) ∙ (ap length flow ∙ length-append a.waiting x) in
    let enough : (r : ℕ) → a.room ≡ Some r → length a.waiting + length x ≤ r → r < length a.waiting + length (x ++ y) =
    λ r is fits. omega (arith, ends.1 (r - length t1) (room r is fits), sizes, fits, length-append x y) in (
      omega (arith, ends.0, faults),
      λ r is. elim (cases_order r (length a.waiting + length x)) [
        | inl e ↦ enough r is (omega (arith, e))
        | inr o ↦ elim o [ inl less ↦ omega (arith, less, length-append x y) | inr more ↦ enough r is (omega (arith, more)) ]
      ],
    )

sent_joined : (a b c : ℕ) (x y : List ℕ) → b ≡ cut (a + length x) → c ≡ cut (b + length y) → c ≡ cut (a + length (x ++ y))
sent_joined a b c x y first second = omega (arith, first, second, length-append x y)

flows_joined : (a b c : PenState) (x y : List ℕ) → b.failed ≡ false → Flows a b x → Flows b c y → Flows a c (x ++ y)
flows_joined a b c x y e f s =
    let ends : EndsIn false a b f.taken f.left (length a.waiting + length x) = subst (λ (g : Bool). EndsIn g a b f.taken f.left (length a.waiting + length x)) e f.ending in
    let flow : f.taken ++ b.waiting ≡ a.waiting ++ x = ap (λ l. f.taken ++ l) (sym ends.0) ∙ f.flow in
    record {
      taken = f.taken ++ s.taken;
      left = s.left;
      flow = append_assoc f.taken s.taken s.left ∙ (ap (λ l. f.taken ++ l) s.flow ∙ (sym (append_assoc f.taken b.waiting y) ∙ (ap (λ l. l ++ y) flow ∙ append_assoc a.waiting x y)));
      written = written_twice a.written b.written c.written f.taken s.taken f.written s.written;
      sent = sent_joined a.sent b.sent c.sent f.taken s.taken f.sent s.sent;
      longest = longest_twice a.longest b.longest c.longest f.longest s.longest;
      ending = ending_joined a b c x y f.taken s.taken s.left c.failed flow ends.1 ends.2 s.ending;
    }

joined_from : (a b c : PenState) (x y : List ℕ) (f g : Bool) → a.failed ≡ f → b.failed ≡ g → WroteFrom f a b x → WroteFrom g b c y → WroteFrom f a c (x ++ y)
joined_from a b c x y true true p q first second = second ∙ first
joined_from a b c x y true false p q first second = absurd (let e : b.failed ≡ a.failed = ap (λ s. s.failed) first in cc (e, p, q))
joined_from a b c x y false true p q first second = subst (λ (s : PenState). Flows a s (x ++ y)) (sym second) (flows_dropped a b x y q first)
joined_from a b c x y false false p q first second = flows_joined a b c x y q first second

pub writes_joined : (a b c : PenState) (x y : List ℕ) → Wrote a b x → Wrote b c y → Wrote a c (x ++ y)
writes_joined a b c x y first second = joined_from a b c x y a.failed b.failed refl refl first second

pub writes_dropped : (s : PenState) (bytes : List ℕ) → s.failed ≡ true → Wrote s s bytes
writes_dropped s bytes failed = subst (λ (f : Bool). WroteFrom f s s bytes) (sym failed) refl
