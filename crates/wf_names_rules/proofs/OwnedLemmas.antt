-- A method of an owner stands once among the names of that owner's methods.
use Rattle.std.proofs.Common.{◌≡◌, ℕ, zero, suc, Bool, true, false, if◌then◌else◌, List, [], ◌∷◌, Some, slice_get, refl, sym, ap, subst, arith}
use Rattle.wf_names_rules.specs.Declarations.{Method, is_spelt}
use Rattle.wf_names_rules.specs.NameRules.{names_owned}

-- Where a method of an owner stands among the names of that owner's methods.
abbrev pub owned_before : (owner : ℕ) → List Method → ℕ → ℕ
owned_before owner [] i = 0
owned_before owner (x ∷ ms) zero = 0
owned_before owner (x ∷ ms) (suc i) = if is_spelt owner x.owner then suc (owned_before owner ms i) else owned_before owner ms i

pub owned-at : (owner : ℕ) (ms : List Method) (i : ℕ) (m : Method) → slice_get ms i ≡ Some m → is_spelt owner m.owner ≡ true → slice_get (names_owned owner ms) (owned_before owner ms i) ≡ Some m.name
owned-at owner [] i m e h = absurd (cc e)
owned-at owner (x ∷ ms) zero m e h =
    let same : x ≡ m = cc e in
    let P : Method → Type 0 = λ z. slice_get (if is_spelt owner z.owner then z.name ∷ names_owned owner ms else names_owned owner ms) 0 ≡ Some m.name in
    subst P (sym same) (rw h refl)
owned-at owner (x ∷ ms) (suc i) m e h = by (is_spelt owner x.owner) (owned-at owner ms i m e h)
  where
    by : (b : Bool) → slice_get (names_owned owner ms) (owned_before owner ms i) ≡ Some m.name
        → slice_get (if b then x.name ∷ names_owned owner ms else names_owned owner ms) (if b then suc (owned_before owner ms i) else owned_before owner ms i) ≡ Some m.name
    by true k = k
    by false k = k

pub before-same : (owner : ℕ) (ms : List Method) (i j : ℕ) (m n : Method) → slice_get ms i ≡ Some m → slice_get ms j ≡ Some n → is_spelt owner m.owner ≡ true → is_spelt owner n.owner ≡ true
    → owned_before owner ms i ≡ owned_before owner ms j → i ≡ j
before-same owner [] i j m n e g h k same = absurd (cc e)
before-same owner (x ∷ ms) zero zero m n e g h k same = refl
before-same owner (x ∷ ms) zero (suc j) m n e g h k same =
    let one : x ≡ m = cc e in
    let P : Method → Type 0 = λ z. is_spelt owner z.owner ≡ true in
    let own : is_spelt owner x.owner ≡ true = subst P (sym one) h in
    let Q : Bool → Type 0 = λ b. 0 ≡ (if b then suc (owned_before owner ms j) else owned_before owner ms j) in
    let none : 0 ≡ suc (owned_before owner ms j) = subst Q own same in
    absurd (omega (arith, none))
before-same owner (x ∷ ms) (suc i) zero m n e g h k same =
    let one : x ≡ n = cc g in
    let P : Method → Type 0 = λ z. is_spelt owner z.owner ≡ true in
    let own : is_spelt owner x.owner ≡ true = subst P (sym one) k in
    let Q : Bool → Type 0 = λ b. (if b then suc (owned_before owner ms i) else owned_before owner ms i) ≡ 0 in
    let none : suc (owned_before owner ms i) ≡ 0 = subst Q own same in
    absurd (omega (arith, none))
before-same owner (x ∷ ms) (suc i) (suc j) m n e g h k same = ap suc (by (is_spelt owner x.owner) same (before-same owner ms i j m n e g h k))
  where
    by : (b : Bool) → (if b then suc (owned_before owner ms i) else owned_before owner ms i) ≡ (if b then suc (owned_before owner ms j) else owned_before owner ms j) → (owned_before owner ms i ≡ owned_before owner ms j → i ≡ j) → i ≡ j
    by true s more = more (omega (arith, s))
    by false s more = more s
