use Rattle.std.proofs.Common.{Bool, List, ◌∙◌, ap, subst, sym}
use Rattle.wf_ast.specs.TypedPackage.{package_of}
use Rattle.wf_lower.specs.Called.{AreCalled}
use Rattle.wf_lower.specs.Coroutines.{HaveCoroutines}
use Rattle.wf_lower.specs.Unit.{lowered_unit}
use Rattle.wf_lower.proofs.Whole.{ready, typed_as, whole_text}
use Rattle.wf_lower.proofs.lowering.lower.Goals as goal

pub started_by_method-requires : goal.started_by_method-requires
started_by_method-requires c = typed_as c.args.a.now c.typed-t.ensures.kept c.typed-t.result.now c.typed-t.ensures.same

pub called_methods-requires : goal.called_methods-requires
called_methods-requires c = typed_as c.args.a.now c.typed-t.ensures.kept c.typed-t.result.now c.typed-t.ensures.same

pub add_items-requires-clause-ready : goal.add_items-requires-clause-ready
add_items-requires-clause-ready c = ready c.as_slice.result.now c.args.a.now c.typed-t.ensures.kept c.requires c.typed-t.result.now c.points.result.now c.typed-t.ensures.same c.points.ensures.same (c.as_slice.ensures ∙ c.in_ok-started.ensures)

pub add_items-requires-clause-called : goal.add_items-requires-clause-called
add_items-requires-clause-called c = subst (λ (flags : List Bool). AreCalled (package_of c.typed-t.result.now) flags) (sym c.as_slice-2.ensures.value) c.in_ok-called.ensures

pub structs_with_coroutines-requires : goal.structs_with_coroutines-requires
structs_with_coroutines-requires c = typed_as c.args.a.now c.typed-t.ensures.kept c.typed-t.result.now c.typed-t.ensures.same

pub add_items-requires-clause-coroutines : goal.add_items-requires-clause-coroutines
add_items-requires-clause-coroutines c = subst (λ (flags : List Bool). HaveCoroutines (package_of c.typed-t.result.now) flags) (sym c.as_slice-3.ensures.value) c.in_ok-coroutines.ensures

pub returns : goal.returns
returns c = whole_text c.reserve.new.self _ _ (c.reserve.ensures ∙ c.new-u.ensures) c.in_ok-add_items.ensures ∙ ap (λ t. lowered_unit (package_of t)) c.typed-t.ensures.same
