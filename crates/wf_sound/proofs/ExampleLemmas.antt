-- The worked example: everything computes.
use Rattle.std.proofs.Common.{◌≡◌, ℕ, zero, suc, true, List, [], ◌∷◌, Some, None, refl, sym, subst, length, ◌^◌, ◌<◌, arith, rules}
use Rattle.std.specs.Prelude.{slice_get, is_some, replicate, All}
use Rattle.std.proofs.lemmas.List.Elements.{All-from_recursion}
use Rattle.turns.specs.Run.{Go}
use Rattle.wf_base.specs.BaseOps.{Buffer, empty_buffer}
use Rattle.wf_base.specs.BaseOps as ops
use Rattle.wf_ast.specs.declared.types.Ty.{Ty}
use Rattle.wf_ast.specs.TypedTree.{plain}
use Rattle.wf_ast.specs.WellTyped.{well_typed, variable_at}
use Rattle.wf_ast.specs.Value.{Value, buffer}
use Rattle.wf_facts_exprs.specs.RangeOf.{met}
use Rattle.wf_meaning.specs.Examples.{site}
use Rattle.wf_meaning.specs.SourceState.{Held, Remaining, Object}
use Rattle.wf_meaning.specs.World.{held_at}
use Rattle.wf_meaning.specs.SourceStep.{Callees, step, at_block, with_some}
use Rattle.wf_meaning.specs.Demo.{demo}
use Rattle.wf_bounds_stmts.specs.Statements.{single}
use Rattle.wf_bounds_stmts.specs.FactRules.{statement_refusal}
use Rattle.wf_sound.specs.Worlds.{field_type, IsOfType, IsHeldAs}
use Rattle.wf_sound.specs.Positions.{around}
use Rattle.wf_sound.specs.OneStep.{IsLeftBy, IsWellTyped, IsRunning}
use Rattle.wf_sound.specs.Examples.{next_val, after_it, round_it, known_there, parsing, one_parser, vars_with, no_lists}

some_same : {X : Type 0} (x y : X) → Some x ≡ Some y → x ≡ y
some_same x y h = cc (h)

well : IsWellTyped parsing
unfolding well_typed
well = record { whole = refl; method = refl }

pub refused : statement_refusal (around parsing round_it) known_there (site 7 21 13) (single next_val) ≡ None
unfolding met
refused = refl

pub goes_on : (calls : Callees) → step parsing calls 3 (at_block (plain (site 7 21 13) next_val after_it) round_it (vars_with 7)) ≡ Go (at_block after_it round_it (vars_with 75))
unfolding step with_some
goes_on calls = refl

empty : ops.IsLawful (empty_buffer 4)
empty = record { read = omega arith; written = omega arith; bytes = All-from_recursion (λ cell. cell < 2 ^ 8) (replicate 4 0) (search rules); size = omega arith; counted = omega arith }

objects : (object s : ℕ) → slice_get one_parser.structs object ≡ Some s → is_some (slice_get (vars_with 7).world.objects object) ≡ true
objects zero s h = refl
objects (suc n) s h = absurd (cc (h))

fields : (object n : ℕ) (ty : Ty) → field_type demo one_parser object n ≡ Some ty → (held : Held) × (held_at (vars_with 7).world object n ≡ Some held) × IsHeldAs one_parser ty held
fields zero zero ty h =
    let P : Ty → Type 0 = λ ty. (held : Held) × (held_at (vars_with 7).world 0 0 ≡ Some held) × IsHeldAs one_parser ty held in
    subst P (some_same _ ty h) (_, refl, record { above = omega arith; below = omega arith })
fields zero (suc n) ty h = absurd (cc (h))
fields (suc o) n ty h = absurd (cc (h))

remaining : (object method : ℕ) (o : Object) (left : Remaining) → slice_get (vars_with 7).world.objects object ≡ Some o → slice_get o.remaining method ≡ Some (Some left) → IsLeftBy demo no_lists method left
remaining zero m o left h k =
    let P : Object → Type 0 = λ o. slice_get o.remaining m ≡ Some (Some left) in
    absurd (nothing m (subst P (sym (some_same _ o h)) k))
  where
    nothing : (m : ℕ) → slice_get (None ∷ None ∷ []) m ≡ Some (Some left) → ⊥
    nothing zero e = cc (e)
    nothing (suc zero) e = cc (e)
    nothing (suc (suc m)) e = cc (e)
remaining (suc n) m o left h k = absurd (cc (h))

arrays : (a len : ℕ) → slice_get one_parser.arrays a ≡ Some len → (cells : List ℕ) × (slice_get (vars_with 7).world.host.arrays a ≡ Some cells) × (length cells ≡ len) × All (λ cell. cell < 2 ^ 8) cells
arrays a len h = absurd (cc (h))

buffers : (k : ℕ) → k < one_parser.buffers → (b : Buffer) × (slice_get (vars_with 7).world.host.buffers k ≡ Some b) × ops.IsLawful b
buffers zero h = (empty_buffer 4, refl, empty)
buffers (suc k) h = absurd (omega (arith, h))

args : (n : ℕ) (ty : Ty) → variable_at parsing.method.args n ≡ Some ty → (v : Value) × (slice_get parsing.args n ≡ Some v) × IsOfType demo one_parser ty v
args zero ty h =
    let P : Ty → Type 0 = λ ty. (v : Value) × (slice_get parsing.args 0 ≡ Some v) × IsOfType demo one_parser ty v in
    subst P (some_same _ ty h) (_, refl, omega arith)
args (suc n) ty h = absurd (cc (h))

locals : (n : ℕ) (ty : Ty) → variable_at parsing.method.locals n ≡ Some ty → (v : Value) × (slice_get (vars_with 7).locals n ≡ Some v) × IsOfType demo one_parser ty v
locals zero ty h =
    let P : Ty → Type 0 = λ ty. (v : Value) × (slice_get (vars_with 7).locals 0 ≡ Some v) × IsOfType demo one_parser ty v in
    subst P (some_same _ ty h) (_, refl, record { above = omega arith; below = omega arith })
locals (suc n) ty h = absurd (cc (h))

apart : (a other k : ℕ) → slice_get parsing.args a ≡ Some (buffer k) → slice_get parsing.args other ≡ Some (buffer k) → a ≡ other
apart zero zero k h j = refl
apart zero (suc n) k h j = absurd (cc (j))
apart (suc n) other k h j = absurd (cc (h))

pub running : IsRunning (IsLeftBy demo no_lists) one_parser parsing (plain (site 7 21 13) next_val after_it) round_it (vars_with 7)
running = record {
  lawful = record {
    world = record { objects = objects; fields = fields; remaining = remaining; arrays = arrays; buffers = buffers };
    receiver = refl;
    args = record { each = args };
    locals = record { each = locals };
  };
  apart = record { buffers = apart };
  typed = well;
  well = refl;
}
