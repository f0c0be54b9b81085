-- Calls: what they hand over and need, and what is known after them.
use Rattle.std.specs.Prelude.{◌-◌, ◌^◌, Bool, not, ◌&&◌, ◌||◌, List, [], ◌∷◌, map, Option, None, Some, option_and_then, if◌then◌else◌, slice_get}
use Rattle.wf_text.specs.declared.place.Place.{Place}
use Rattle.wf_text.specs.declared.rules.Rule.TheVariants.{B8, B9}
use Rattle.wf_text.specs.declared.rules.Refusal.{Refusal}
use Rattle.wf_base.specs.declared.marks.Mark.{Mark}
use Rattle.wf_base.specs.declared.widths.Width.{Width}
use Rattle.wf_base.specs.declared.widths.Width.TheVariants.{W8, W32, W64}
use Rattle.wf_base.specs.BaseTable.{bits_of, read_width}
use Rattle.wf_ast.specs.declared.types.Ty.{Ty}
use Rattle.wf_ast.specs.declared.things.Thing.{Thing}
use Rattle.wf_ast.specs.declared.things.Thing.TheVariants as things
use Rattle.wf_ast.specs.TypedTree.{NumType, number, asked, at_most, at_least, reader_length, writer_length, ValueTree, numeric, elements, io, Target, Awaited, take_number, skip, write, Written, skip_fast, write_fast, copy_to_writer, copy_to_slice, Called}
use Rattle.wf_ast.specs.TypedPackage.{MethodTree}
use Rattle.wf_ast.specs.WellTyped.{Context, is_pure, is_coroutine, number_of}
use Rattle.wf_facts_exprs.specs.Claims.{Claim, single}
use Rattle.wf_facts_exprs.specs.Given.{gives_sides}
use Rattle.wf_facts_exprs.specs.Demands.{demand, or_else, slice_refusal}
use Rattle.wf_facts.specs.declared.changes.Change.TheVariants.{Shortened}
use Rattle.wf_facts.specs.FactLists.{without, changed}
use Rattle.wf_facts.specs.Forms.{number_in}
use Rattle.wf_bounds_stmts.specs.Requirements.{number_type, Handed, all_handed}
use Rattle.wf_bounds_stmts.specs.Targets.{without_some, unwritten, answer_refusal}

-- Where a method may be left and gone on with later, nothing stays known of fields, of arguments, which are then those of
-- another call, of elements, and of slices in locals, which are empty then.
abbrev pub interrupted : List Claim → List Claim
interrupted fs = without things.SliceLocals (without things.Element (without things.Args (without things.This fs)))

-- Calls of methods.

-- `f?()` hands a suspension on, so its method may be left there; `=?` keeps whatever status comes.
abbrev pub hands_on : (keep : Bool) → Mark → Bool
hands_on keep mark = not keep && is_coroutine mark

abbrev pub callee_of : Context → Called → Option MethodTree
callee_of c called = slice_get c.within.methods (number_of called)

-- The arguments' values, in declared order, each with its type.
abbrev pub handed_to : List Ty → List ValueTree → List Handed
handed_to (ty ∷ tys) (v ∷ vs) = (number_type ty, v) ∷ handed_to tys vs
handed_to tys vs = []

abbrev pub handed_to_method : Option MethodTree → List ValueTree → List Handed
handed_to_method None vs = []
handed_to_method (Some callee) vs = handed_to (map (λ x. x.ty) callee.args) vs

-- The numbers that a method answers.
abbrev pub answered_by : Option MethodTree → Option NumType
answered_by callee = option_and_then number_type (option_and_then (λ m. m.gives) callee)

-- `f?()` may be left while its arguments are looked at anew when it goes on, so they are checked under what stays known then.
abbrev pub known_to_call : (keep : Bool) → Mark → List Claim → List Claim
known_to_call keep mark fs = if hands_on keep mark then interrupted fs else fs

-- A reader or a writer that is handed over; None where a value is anything else.
abbrev pub handed_thing : ValueTree → Option Thing
handed_thing (io at a) = Some (things.Arg (record { 0 = a }))
handed_thing v = None

-- Nothing stays known of it.
abbrev pub without_handed : List ValueTree → List Claim → List Claim
without_handed [] fs = fs
without_handed (v ∷ vs) fs = without_handed vs (without_some (handed_thing v) fs)

-- A marked method may write to fields and elements, and may read and write what is handed to it.
abbrev pub changed_by_call : (keep : Bool) → Mark → List ValueTree → List Claim → List Claim
changed_by_call keep mark vs fs = if hands_on keep mark || is_pure mark then fs else without_handed vs (without things.Element (without things.This fs))

abbrev pub left_by_call : (keep : Bool) → Mark → List ValueTree → List Claim → List Claim
left_by_call keep mark vs fs = changed_by_call keep mark vs (known_to_call keep mark fs)

abbrev pub invoke_refusal : Context → List Claim → Place → Target → (keep : Bool) → Mark → Called → List ValueTree → Option Refusal
invoke_refusal c fs at target keep mark called vs =
    or_else (all_handed B8 (known_to_call keep mark fs) (handed_to_method (callee_of c called) vs))
    (answer_refusal (left_by_call keep mark vs fs) at target (answered_by (callee_of c called)))

abbrev pub invoked : List Claim → Target → (keep : Bool) → Mark → List ValueTree → List Claim
invoked fs target keep mark vs = unwritten target (left_by_call keep mark vs fs)

-- Base methods.

abbrev pub all_of : Width → Option NumType
all_of width = Some (record { bits = bits_of width; low = 0; high = 2 ^ bits_of width - 1 })

-- Those that may suspend: what they hand over, and the numbers that they answer.
abbrev pub handed_to_awaited : Awaited → List Handed
handed_to_awaited (take_number form) = []
handed_to_awaited (skip count) = (all_of W32, numeric count) ∷ []
handed_to_awaited (write byte) = (all_of W8, numeric byte) ∷ []

abbrev pub answered_by_awaited : Awaited → Option NumType
answered_by_awaited (take_number form) = all_of (read_width form)
answered_by_awaited call = None

abbrev pub await_refusal : List Claim → Place → Target → Awaited → Option Refusal
await_refusal fs at target call =
    or_else (all_handed B8 fs (handed_to_awaited call)) (answer_refusal (interrupted fs) at target (answered_by_awaited call))

abbrev pub awaited : List Claim → Target → List Claim
awaited fs target = unwritten target (interrupted fs)

-- And those that don't.
abbrev pub handed_to_written : Written → List Handed
handed_to_written (skip_fast a actual worst_case) = (all_of W32, numeric actual) ∷ (all_of W32, numeric worst_case) ∷ []
handed_to_written (write_fast a byte) = (all_of W8, numeric byte) ∷ []
handed_to_written (copy_to_writer a source) = (None, elements source) ∷ []
handed_to_written (copy_to_slice target source) = (None, elements source) ∷ []

abbrev pub answered_by_written : Written → Option NumType
answered_by_written (skip_fast a actual worst_case) = None
answered_by_written (write_fast a byte) = None
answered_by_written (copy_to_writer a source) = all_of W64
answered_by_written (copy_to_slice target source) = all_of W64

-- The slice that is written to is checked too; where it is a name, as everywhere in a package, it demands nothing.
abbrev pub receiver_refusal : List Claim → Written → Option Refusal
receiver_refusal fs (copy_to_slice target source) = slice_refusal fs target
receiver_refusal fs call = None

-- A skip needs the bytes that it promises at most to take, and a write its room.
abbrev pub premise_refusal : List Claim → (at : Place) → Written → Option Refusal
premise_refusal fs at (skip_fast a actual worst_case) =
    or_else (demand (gives_sides fs (single actual) at_most (single worst_case)) B9 at)
    (demand (gives_sides fs (single (asked at reader_length a)) at_least (single worst_case)) B9 at)
premise_refusal fs at (write_fast a byte) = demand (gives_sides fs (single (asked at writer_length a)) at_least (single (number at 1))) B9 at
premise_refusal fs at call = None

-- A length shrinks by at most what is promised, where that is a constant; what has been written to is no longer known.
abbrev pub left_by_written : Written → List Claim → List Claim
left_by_written (skip_fast a actual worst_case) fs = changed (things.Arg (record { 0 = a })) (Shortened (number_in worst_case)) fs
left_by_written (write_fast a byte) fs = changed (things.Arg (record { 0 = a })) (Shortened (Some 1)) fs
left_by_written (copy_to_writer a source) fs = without (things.Arg (record { 0 = a })) fs
left_by_written (copy_to_slice target source) fs = without things.Element fs

abbrev pub perform_refusal : List Claim → Place → Target → Written → Option Refusal
perform_refusal fs at target call =
    or_else (receiver_refusal fs call) (or_else (all_handed B8 fs (handed_to_written call)) (or_else (premise_refusal fs at call)
    (answer_refusal (left_by_written call fs) at target (answered_by_written call))))

abbrev pub performed : List Claim → Target → Written → List Claim
performed fs target call = unwritten target (left_by_written call fs)
