-- What the machine's entry table and answers are in the words of the source's meaning.
use Rattle.std.specs.Prelude.{◌≡◌, ℕ, Bool, true, Option, None, Some, option_map}
use Rattle.wf_meaning.specs.SourceState.{Object}
use Rattle.wf_meaning.specs.Entry.{Admission, refused, admitted, Answered, returned, suspended}
use Rattle.wf_mean_exprs.specs.MachineState.{slot_seen}
use Rattle.wf_mean_stmts.specs.declared.entry.Answer.{Answer}
use Rattle.wf_mean_stmts.specs.declared.entry.Answer.TheVariants.{Returned, Suspended}

abbrev pub answer_seen : Answer → Answered
answer_seen (Returned v) = returned (option_map slot_seen v)
answer_seen (Suspended status) = suspended status

-- The status with which a call is refused, or none where the body is entered; and the struct state then.
abbrev pub Admits : Option ℕ → Admission → (old new : Object) → Type 0
Admits None admitted old new = new ≡ old
Admits (Some status) (refused given object) old new = (status ≡ given) × (new ≡ object)
Admits answer admission old new = ⊥

-- A number is equal to itself, where there is one.
abbrev pub itself : Option ℕ → Option Bool
itself None = None
itself (Some n) = Some true
