-- What the functions of all methods have in common, which a unit has once.
use Rattle.std.specs.Prelude.{ℕ, codes}
use Rattle.wf_text.specs.Surface.{AnswerKind}
use Rattle.wf_text.specs.Surface as surface
use Rattle.wf_meaning.specs.Entry as entry
use Rattle.c_text.specs.declared.kinds.COp.TheVariants.{Eq}
use Rattle.c_text.specs.declared.kinds.CUnary.TheVariants.{Not}
use Rattle.c_text.specs.CNodes.{Nodes}
use Rattle.c_text.specs.CTree.{Code, finish, leave, unary}
use Rattle.wf_exprs.specs.Grown.{HasCode, HasExpr, HasNamed}
use Rattle.wf_exprs.specs.Words.{num, self, two as two_codes}
use Rattle.wf_lower_stmts.specs.Forms.{when}
use Rattle.wf_lower.specs.declared.shared.AllRefusals.{AllRefusals}
use Rattle.wf_lower.specs.declared.shared.EntryExprs.{EntryExprs}
use Rattle.wf_lower.specs.declared.shared.EntryParts.{EntryParts}
use Rattle.wf_lower.specs.declared.shared.OwnNames.{OwnNames}
use Rattle.wf_lower.specs.declared.shared.Refusals.{Refusals}
use Rattle.wf_lower.specs.declared.shared.Shared.{Shared}
use Rattle.wf_lower.specs.Bodies.{active as active_code, disable, first_is, life as life_code, refused_with}

-- The unit has the names of the locals that are the text's own.
pub record HasOwnNames (nodes : Nodes) (names : OwnNames) : Type 0 where
  pub status : HasNamed nodes names.status.0 (codes "status")
  pub got : HasNamed nodes names.got.0 (codes "got")
  pub size : HasNamed nodes names.size.0 (codes "size")
  pub held : HasNamed nodes names.held.0 (codes "held")
  pub count : HasNamed nodes names.count.0 (codes "count")

-- The unit has what entries test and set.
pub record HasEntryExprs (nodes : Nodes) (exprs : EntryExprs) : Type 0 where
  pub life : HasExpr nodes exprs.life.0 life_code
  pub active : HasExpr nodes exprs.active.0 active_code
  pub two : HasExpr nodes exprs.two.0 (num 2)
  pub null : HasExpr nodes exprs.null.0 (unary Not self)
  pub raw : HasExpr nodes exprs.raw.0 (two_codes Eq (num 0) life_code)
  pub disabled : HasExpr nodes exprs.disabled.0 (two_codes Eq (num 2) life_code)
  pub suspended : HasExpr nodes exprs.suspended.0 (first_is 36)

-- A call that is refused with this status.
abbrev pub refusal : AnswerKind → (status : ℕ) → Code
refusal kind status = leave (refused_with kind status) finish

-- The unit has what a call is refused with, by what its method answers.
pub record HasRefusals (nodes : Nodes) (refusals : Refusals) (kind : AnswerKind) : Type 0 where
  pub bad_receiver : HasCode nodes refusals.bad_receiver.0 (refusal kind entry.bad_receiver)
  pub bad_argument : HasCode nodes refusals.bad_argument.0 (refusal kind entry.bad_argument)
  pub not_initialized : HasCode nodes refusals.not_initialized.0 (refusal kind entry.not_initialized)
  pub interleaved : HasCode nodes refusals.interleaved.0 (refusal kind entry.interleaved)
  pub was_disabled : HasCode nodes refusals.was_disabled.0 (refusal kind entry.was_disabled)

-- What the calls of all methods are refused with. Of a number and of a truth value that is the same.
pub record HasAllRefusals (nodes : Nodes) (refusals : AllRefusals) : Type 0 where
  pub status : HasRefusals nodes refusals.status surface.status
  pub value : HasRefusals nodes refusals.value surface.truth
  pub nothing : HasRefusals nodes refusals.nothing surface.nothing

-- After the body of a coroutine, an error disables.
abbrev pub settle_error : Code
settle_error = when (first_is 35) (disable finish) finish

-- The unit has the parts of the entries of methods that answer this.
pub record HasEntryParts (nodes : Nodes) (parts : EntryParts) (kind : AnswerKind) : Type 0 where
  pub exprs : HasEntryExprs nodes parts.exprs
  pub failed : HasCode nodes parts.failed.0 settle_error
  pub refusals : HasRefusals nodes parts.refusals kind

-- The unit has all that the functions of all methods have in common.
pub record HasShared (nodes : Nodes) (shared : Shared) : Type 0 where
  pub names : HasOwnNames nodes shared.names
  pub exprs : HasEntryExprs nodes shared.exprs
  pub failed : HasCode nodes shared.failed.0 settle_error
  pub refusals : HasAllRefusals nodes shared.refusals
