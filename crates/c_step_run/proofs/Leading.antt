-- Each instruction leads on in the run of the meaning.
use Rattle.std.proofs.Common.{◌≡◌, ℕ, zero, suc, ◌<◌, Bool, true, false, Option, Some, None, sym, ap, ◌∙◌, subst, arith}
use Rattle.std.specs.Prelude.{if◌then◌else◌, nat_lt, slice_get, option_and_then}
use Rattle.std.proofs.lemmas.Bool.Decides.{nat_tests}
use Rattle.turns.specs.Run.{Outcome, Got, More, Lost}
use Rattle.c_meaning.specs.declared.values.CValue.{CValue}
use Rattle.c_meaning.specs.declared.values.CValue.TheVariants.{Numeric as numeric, Address as address, NullPointer as null_pointer}
use Rattle.c_meaning.specs.declared.cells.CellType.{CellType}
use Rattle.c_meaning.specs.CValues.{holds}
use Rattle.c_meaning.specs.CMemory.{Memory}
use Rattle.c_meaning.specs.CStep.{Returned}
use Rattle.c_step_exprs.specs.Instrs.{as_cell}
use Rattle.c_step_text.specs.declared.text.Span.{Span}
use Rattle.c_step_text.specs.declared.text.StmtInstr.{StmtInstr}
use Rattle.c_step_text.specs.Flat.{FlatText, code_in, arms_in, arm_of}
use Rattle.c_step_text.specs.Layout.{number_or}
use Rattle.c_step_text.specs.Acting.{Activation, Target, runs_on, seen, evaluated, defined, tested, by_number, with_turn, with_turn_unless, Moves, Leaps, Tests, Backs, Switches, Returns, Does, Doing}
use Rattle.c_step_text.proofs.Doings.{doing}
use Rattle.c_step_run.specs.declared.moved.Moved.TheVariants as moved
use Rattle.c_step_run.specs.declared.moved.Ended.{Ended}
use Rattle.c_step_run.specs.declared.moved.Ended.TheVariants as ended
use Rattle.c_step_run.specs.Leaps.{turning, leaping, moving, going_back, testing, coming_back, switching, ending, returning}
use Rattle.c_step_run.specs.Meaning.{Comes, Standing, LeadsOn, after_kept}

-- To a later instruction no turn is needed.
later_leap : (pc to left : ℕ) → pc < to → leaping pc to left ≡ moved.Goes to left
later_leap pc to left h = ap (λ (b : Bool). if b then moved.Goes to left else turning to left) is_later
  where
    is_later : nat_lt pc to ≡ true
    is_later = grind (arith, nat_tests, h)

module _ (t : FlatText) (a : Activation) (total : Outcome Returned) where
  -- At the place that a number stands for.
  stands : (n left : ℕ) (memory : Memory) (target : Target t a n) → total ≡ runs_on target left memory → Standing t a n left memory total
  stands n left memory target e = record { code = target.code; continuation = target.continuation; inside = target.inside; same = sym e }

  leaps_later : (pc to left : ℕ) (memory : Memory) (target : Target t a to) → pc < to → total ≡ runs_on target left memory → LeadsOn t a (leaping pc to left) memory total
  leaps_later pc to left memory target h e = subst (λ (m : _). LeadsOn t a m memory total) (sym (later_leap pc to left h)) (stands to left memory target e)

  pub moves_on : (pc next left : ℕ) (does : Memory → Option Memory) (h : ℕ → Memory → Outcome Returned) (before now : Memory) (b : Bool) → Moves t a pc next does h
      → Comes (does before) b now → total ≡ h left before → LeadsOn t a (moving b pc next left) now total
  moves_on pc next left does h before now true m k e = leaps_later pc next left now m.target m.later (e ∙ (m.comes left before ∙ ap (λ (o : Option Memory). defined o (runs_on m.target left)) k))
  moves_on pc next left does h before now false m k e = e ∙ (m.comes left before ∙ ap (λ (o : Option Memory). defined o (runs_on m.target left)) k)

  turns_to : (to left : ℕ) (memory : Memory) (target : Target t a to) → total ≡ with_turn left (λ now. runs_on target now memory) → LeadsOn t a (turning to left) memory total
  turns_to to zero memory target e = e
  turns_to to (suc left) memory target e = stands to left memory target e

  leaps_by : (b : Bool) (to left : ℕ) (memory : Memory) (target : Target t a to) → total ≡ with_turn_unless b left (λ now. runs_on target now memory) → LeadsOn t a (if b then moved.Goes to left else turning to left) memory total
  leaps_by true to left memory target e = stands to left memory target e
  leaps_by false to left memory target e = turns_to to left memory target e

  pub leaps_on : (pc next left : ℕ) (h : ℕ → Memory → Outcome Returned) (memory : Memory) → Leaps t a pc next h → total ≡ h left memory → LeadsOn t a (leaping pc next left) memory total
  leaps_on pc next left h memory l e = leaps_by (nat_lt pc next) next left memory l.target (e ∙ l.comes left memory)

  -- By a condition.
  tests_by : (b : Bool) (pc met unmet left : ℕ) (memory : Memory) (to_met : Target t a met) (to_unmet : Target t a unmet) → pc < met → pc < unmet
      → total ≡ (if b then runs_on to_met left memory else runs_on to_unmet left memory) → LeadsOn t a (if b then leaping pc met left else leaping pc unmet left) memory total
  tests_by true pc met unmet left memory to_met to_unmet h k e = leaps_later pc met left memory to_met h e
  tests_by false pc met unmet left memory to_met to_unmet h k e = leaps_later pc unmet left memory to_unmet k e

  pub tests_on : (pc met unmet left : ℕ) (test : Span) (h : ℕ → Memory → Outcome Returned) (memory : Memory) (v : Option CValue) → Tests t a pc test met unmet h
      → v ≡ evaluated (seen a memory) (code_in t test) → total ≡ h left memory → LeadsOn t a (testing v pc met unmet left) memory total
  tests_on pc met unmet left test h memory v q k e =
      by_value v (e ∙ (q.comes left memory ∙ ap (λ (o : Option CValue). tested o (runs_on q.to_met left memory) (runs_on q.to_unmet left memory)) (sym k)))
    where
      by_value : (o : Option CValue) → total ≡ tested o (runs_on q.to_met left memory) (runs_on q.to_unmet left memory) → LeadsOn t a (testing o pc met unmet left) memory total
      by_value None g = g
      by_value (Some w) g = tests_by (holds w) pc met unmet left memory q.to_met q.to_unmet q.later_met q.later_unmet g

  -- By a condition, after a turn.
  backs_by : (b : Bool) (met unmet left : ℕ) (memory : Memory) (to_met : Target t a met) (to_unmet : Target t a unmet)
      → total ≡ (if b then runs_on to_met left memory else runs_on to_unmet left memory) → LeadsOn t a (if b then moved.Goes met left else moved.Goes unmet left) memory total
  backs_by true met unmet left memory to_met to_unmet e = stands met left memory to_met e
  backs_by false met unmet left memory to_met to_unmet e = stands unmet left memory to_unmet e

  pub no_turn : (met unmet left : ℕ) (test : Span) (h : ℕ → Memory → Outcome Returned) (memory : Memory) → Backs t a test met unmet h → left ≡ 0 → total ≡ h left memory → total ≡ More
  no_turn met unmet left test h memory q z e = e ∙ (q.comes left memory ∙ ap (λ (n : ℕ). with_turn n (λ now. tested (evaluated (seen a memory) (code_in t test)) (runs_on q.to_met now memory) (runs_on q.to_unmet now memory))) z)

  pub backs_on : (met unmet left now : ℕ) (test : Span) (h : ℕ → Memory → Outcome Returned) (memory : Memory) (v : Option CValue) → Backs t a test met unmet h
      → left ≡ suc now → v ≡ evaluated (seen a memory) (code_in t test) → total ≡ h left memory → LeadsOn t a (coming_back v met unmet now) memory total
  backs_on met unmet left now test h memory v q s k e =
      by_value v (e ∙ (q.comes left memory
      ∙ (ap (λ (n : ℕ). with_turn n (λ m. tested (evaluated (seen a memory) (code_in t test)) (runs_on q.to_met m memory) (runs_on q.to_unmet m memory))) s
      ∙ ap (λ (o : Option CValue). tested o (runs_on q.to_met now memory) (runs_on q.to_unmet now memory)) (sym k))))
    where
      by_value : (o : Option CValue) → total ≡ tested o (runs_on q.to_met now memory) (runs_on q.to_unmet now memory) → LeadsOn t a (coming_back o met unmet now) memory total
      by_value None g = g
      by_value (Some w) g = backs_by (holds w) met unmet now memory q.to_met q.to_unmet g

  -- By a number.
  pub switches_on : (pc other left : ℕ) (on arms : Span) (h : ℕ → Memory → Outcome Returned) (memory : Memory) (v : Option CValue) → Switches t a pc on arms other h
      → v ≡ evaluated (seen a memory) (code_in t on) → total ≡ h left memory → LeadsOn t a (switching v (arms_in t arms) pc other left) memory total
  switches_on pc other left on arms h memory v q k e = by_value v (e ∙ (q.comes left memory ∙ ap (λ (o : Option CValue). by_number o (λ n. runs_on (q.target n) left memory)) (sym k)))
    where
      by_value : (o : Option CValue) → total ≡ by_number o (λ n. runs_on (q.target n) left memory) → LeadsOn t a (switching o (arms_in t arms) pc other left) memory total
      by_value None g = g
      by_value (Some (numeric n)) g = leaps_later pc (number_or (arm_of n (arms_in t arms)) other) left memory (q.target n) (q.later n) g
      by_value (Some (address p)) g = g
      by_value (Some null_pointer) g = g

  -- After a call.
  pub calls_on : (pc next : ℕ) (now : Memory) (target : Target t a next) (o : Ended) → pc < next → total ≡ after_kept o now (runs_on target) → LeadsOn t a (going_back o pc next) now total
  calls_on pc next now target (ended.Got value left) h e = leaps_later pc next left now target h e
  calls_on pc next now target ended.More h e = e
  calls_on pc next now target ended.Lost h e = e

  -- A value is returned.
  pub returns_on : (left : ℕ) (value : Span) (type : CellType) (h : ℕ → Memory → Outcome Returned) (memory : Memory) (v : Option CValue) → Returns t a value type h
      → v ≡ evaluated (seen a memory) (code_in t value) → total ≡ h left memory → LeadsOn t a (returning v type left) memory total
  returns_on left value type h memory v q k e =
      by_value v (e ∙ (q left memory ∙ ap (λ (o : Option CValue). defined (option_and_then (as_cell type) o) (λ w. Got left (record { memory = memory; value = Some w }))) (sym k)))
    where
      by_cell : (o : Option CValue) → total ≡ defined o (λ w. Got left (record { memory = memory; value = Some w })) → LeadsOn t a (ending o left) memory total
      by_cell None g = g
      by_cell (Some w) g = g

      by_value : (o : Option CValue) → total ≡ defined (option_and_then (as_cell type) o) (λ w. Got left (record { memory = memory; value = Some w })) → LeadsOn t a (returning o type left) memory total
      by_value None g = g
      by_value (Some w) g = by_cell (as_cell type w) g

  -- What the instruction does that stands there.
  pub record Doing_here (pc left : ℕ) (memory : Memory) (i : StmtInstr) : Type 0 where
    pub h : ℕ → Memory → Outcome Returned
    pub does : Does t a pc i h
    pub comes : total ≡ h left memory

  pub doing_here : (pc left : ℕ) (memory : Memory) (i : StmtInstr) → Standing t a pc left memory total → Some i ≡ slice_get t.statements pc → Doing_here pc left memory i
  doing_here pc left memory i s e =
      let d : Doing t a pc s.code s.continuation = doing t a pc s.code s.continuation s.inside in
      let q : d.instr ≡ i = cc (d.has, e) in
      record { h = d.h; does = subst (λ (x : StmtInstr). Does t a pc x d.h) q d.does; comes = sym s.same ∙ d.is left memory }

  pub nothing_here : (pc left : ℕ) (memory : Memory) → Standing t a pc left memory total → None ≡ slice_get t.statements pc → total ≡ Lost
  nothing_here pc left memory s e =
      let d : Doing t a pc s.code s.continuation = doing t a pc s.code s.continuation s.inside in
      absurd (cc (d.has, e))
