-- What a run answers that ends well is of the kind that its method declares. Which numbers statuses may have is told elsewhere.
use Rattle.std.proofs.Common.{◌≡◌, ℕ, ◌^◌, ◌<◌, Bool, true, false, length, Option, Some, None, refl, arith}
use Rattle.std.specs.Prelude.{if◌then◌else◌, nat_le, nat_lt, nat_eq}
use Rattle.std.proofs.lemmas.Bool.{and_parts}
use Rattle.std.proofs.lemmas.Bool.Decides.{nat_tests}
use Rattle.wf_text.specs.Surface.{AnswerKind, status, numeric, truth, nothing}
use Rattle.wf_base.specs.declared.marks.Mark.{Mark}
use Rattle.wf_base.specs.declared.marks.Mark.TheVariants.{Pure, Impure, Coroutine}
use Rattle.wf_base.specs.declared.widths.Width.{Width}
use Rattle.wf_base.specs.BaseTable.{bits_of}
use Rattle.wf_ast.specs.declared.types.Ty.{Ty}
use Rattle.wf_ast.specs.declared.types.Ty.TheVariants as types
use Rattle.wf_ast.specs.TypedPackage.{MethodTree, PackageTree, answer_kind, answers_of}
use Rattle.wf_ast.specs.Value.{Value, num, truth_value, status_number}
use Rattle.wf_ast.specs.WellTyped.{holds_zero, is_coroutine, is_range, is_width, may_be_result}
use Rattle.wf_bufs.specs.declared.outcomes.Outcome.{Outcome}
use Rattle.wf_bufs.specs.declared.outcomes.Outcome.TheVariants as outcomes
use Rattle.wf_meaning.specs.Entry.{Answered, refusal_of, returned, suspended, zero_of}
use Rattle.wf_meaning.specs.SourceStep.{is_result}
use Rattle.wf_sound.specs.Callees.{IsAnswer}
use Rattle.wf_mean.specs.SourceEngines.{kind_told, known_status, outcome_of, outcome_of_value}
use Rattle.wf_mean_laws.specs.Kinds.{AnswersKind, IsOfKind, IsOutcome}
use Rattle.wf_mean_laws.proofs.StatusSteps.{AnswerKnown, OptionKnown}

-- A value is of a kind, whatever the number of a status.
abbrev Fits : AnswerKind → Option Value → Type 0
Fits status (Some (status_number n)) = Unit {0}
Fits (numeric bits) (Some (num n)) = n < 2 ^ bits
Fits truth (Some (truth_value b)) = Unit {0}
Fits nothing None = Unit {0}
Fits kind v = ⊥

abbrev AnswerFits : AnswerKind → Answered → Type 0
AnswerFits kind (returned v) = Fits kind v
AnswerFits kind (suspended n) = Fits kind (Some (status_number n))

-- The numbers of a type have its width.
below-width : (width : Width) (lo hi : ℕ) → holds_zero (record { bits = bits_of width; low = lo; high = hi }) ≡ true → hi < 2 ^ bits_of width
below-width width lo hi may =
    let range = (and_parts (is_range (record { bits = bits_of width; low = lo; high = hi })) (nat_eq lo 0) may).0 in
    let few = (and_parts (nat_le lo hi) _ (and_parts (is_width (bits_of width)) _ range).1).1 in
    grind (arith, nat_tests, few)

zero-fits : (width : Width) (lo hi : ℕ) → holds_zero (record { bits = bits_of width; low = lo; high = hi }) ≡ true → 0 < 2 ^ bits_of width
zero-fits width lo hi may = let few = below-width width lo hi may in omega (arith, few)

-- A result of a type is of the type's kind.
result-kind : (ty : Ty) (v : Value) → may_be_result Pure (Some ty) ≡ true → is_result (Some ty) v ≡ true → Fits (answer_kind (Some ty)) (Some v)
result-kind (types.Num width lo hi) (num n) may is =
    let few = below-width width lo hi may in
    let most = (and_parts (nat_le lo n) _ is).1 in
    grind (arith, nat_tests, few, most)
result-kind types.Flag (truth_value t) may is = tt
result-kind types.Status (status_number n) may is = tt
result-kind (types.Num width lo hi) v may is = absurd (cc (is))
result-kind types.Flag v may is = absurd (cc (is))
result-kind types.Status v may is = absurd (cc (is))
result-kind ty v may is = absurd (cc (may))

answer-kind : (mark : Mark) (gives : Option Ty) (a : Answered) → may_be_result mark gives ≡ true → IsAnswer mark gives a → AnswerFits (answers_of mark gives) a
answer-kind Coroutine gives (suspended n) may is = tt
answer-kind Coroutine gives (returned (Some (status_number n))) may is = tt
answer-kind Coroutine gives (returned v) may is = absurd is
answer-kind Pure None (returned None) may is = tt
answer-kind Pure (Some ty) (returned (Some v)) may is = result-kind ty v may is
answer-kind Impure None (returned None) may is = tt
answer-kind Impure (Some ty) (returned (Some v)) may is = result-kind ty v (same-result ty may) is
  where
    same-result : (ty : Ty) → may_be_result Impure (Some ty) ≡ true → may_be_result Pure (Some ty) ≡ true
    same-result (types.Num width lo hi) h = h
    same-result types.Flag h = refl
    same-result types.Status h = refl
    same-result ty h = absurd (cc (h))
answer-kind Pure gives a may is = absurd is
answer-kind Impure gives a may is = absurd is

-- What is of a kind is an outcome of it.
value-outcome : (p : PackageTree) (kind : AnswerKind) (v : Option Value) → Fits kind v → (outcome : Outcome) × (outcome_of_value p kind v ≡ Some outcome)
value-outcome p status (Some (status_number n)) h = (outcomes.Status (record { 0 = known_status p n }), refl)
value-outcome p (numeric bits) (Some (num n)) h = (outcomes.Num n, by (nat_lt n (2 ^ bits)) refl)
  where
    by : (t : Bool) → nat_lt n (2 ^ bits) ≡ t → (if t then Some (outcomes.Num n) else None) ≡ Some (outcomes.Num n)
    by true e = refl
    by false e = absurd (grind (arith, nat_tests, e, h))
value-outcome p truth (Some (truth_value b)) h = (outcomes.Flag b, refl)
value-outcome p nothing None h = (outcomes.Nothing, refl)
value-outcome p kind v h = absurd h

answer-outcome : (p : PackageTree) (kind : AnswerKind) (a : Answered) → AnswerFits kind a → (outcome : Outcome) × (outcome_of p kind a ≡ Some outcome)
answer-outcome p kind (returned v) h = value-outcome p kind v h
answer-outcome p kind (suspended n) h = value-outcome p kind (Some (status_number n)) h

-- What a method answers is an outcome of its kind.
pub record HasOutcome (p : PackageTree) (m : MethodTree) (a : Answered) : Type 0 where
  pub outcome : Outcome
  pub is : outcome_of p (kind_told m) a ≡ Some outcome

has-outcome : (p : PackageTree) (m : MethodTree) (a : Answered) → AnswerFits (kind_told m) a → HasOutcome p m a
has-outcome p m a h = let it = answer-outcome p (kind_told m) a h in record { outcome = it.0; is = it.1 }

pub answer-has-outcome : (p : PackageTree) (m : MethodTree) (a : Answered) → may_be_result m.mark m.gives ≡ true → IsAnswer m.mark m.gives a → HasOutcome p m a
answer-has-outcome p m a may is = has-outcome p m a (answer-kind m.mark m.gives a may is)

-- An outcome of a status's number that is one of the package's tells its kind.
value-of-kind : (p : PackageTree) (many : 9 < length p.statuses) (kind : AnswerKind) (v : Option Value) (outcome : Outcome) → outcome_of_value p kind v ≡ Some outcome → OptionKnown p many v → IsOfKind p kind v
value-of-kind p many status (Some (status_number n)) outcome e h = h
value-of-kind p many (numeric bits) (Some (num n)) outcome e h = by (nat_lt n (2 ^ bits)) refl e
  where
    by : (t : Bool) → nat_lt n (2 ^ bits) ≡ t → (if t then Some (outcomes.Num n) else None) ≡ Some outcome → n < 2 ^ bits
    by true i e = grind (arith, nat_tests, i)
    by false i e = absurd (cc (e))
value-of-kind p many truth (Some (truth_value b)) outcome e h = tt
value-of-kind p many nothing None outcome e h = tt
value-of-kind p many kind v outcome e h = absurd (cc (e))

pub is-outcome : (p : PackageTree) (many : 9 < length p.statuses) (m : MethodTree) (a : Answered) → HasOutcome p m a → AnswerKnown p many a → IsOutcome p m a
is-outcome p many m a has known = record { kind = by a has.is known; outcome = has.outcome; is = has.is }
  where
    by : (a : Answered) → outcome_of p (kind_told m) a ≡ Some has.outcome → AnswerKnown p many a → AnswersKind p (kind_told m) a
    by (returned v) e h = value-of-kind p many (kind_told m) v has.outcome e h
    by (suspended n) e h = value-of-kind p many (kind_told m) (Some (status_number n)) has.outcome e h

-- So is what a refused call answers.
refusal-kind : (mark : Mark) (gives : Option Ty) (n : ℕ) → may_be_result mark gives ≡ true → Fits (answers_of mark gives) (if is_coroutine mark then Some (status_number n) else zero_of n gives)
refusal-kind Coroutine gives n may = tt
refusal-kind Pure None n may = tt
refusal-kind Impure None n may = tt
refusal-kind Pure (Some types.Flag) n may = tt
refusal-kind Impure (Some types.Flag) n may = tt
refusal-kind Pure (Some types.Status) n may = tt
refusal-kind Impure (Some types.Status) n may = tt
refusal-kind Pure (Some (types.Num width lo hi)) n may = zero-fits width lo hi may
refusal-kind Impure (Some (types.Num width lo hi)) n may = zero-fits width lo hi may
refusal-kind Pure (Some ty) n may = absurd (cc (may))
refusal-kind Impure (Some ty) n may = absurd (cc (may))

pub refusal-outcome : (p : PackageTree) (m : MethodTree) (n : ℕ) → may_be_result m.mark m.gives ≡ true → HasOutcome p m (refusal_of m n)
refusal-outcome p m n may = has-outcome p m (refusal_of m n) (refusal-kind m.mark m.gives n may)
