use Rattle.std.proofs.Common.{◌≡◌, ◌≤◌, ◌<◌, ◌+◌, ◌++◌, ◌∷◌, [], ◌&&◌, ℕ, List, Option, Some, length, map, refl, sym, ap, subst, ◌∙◌, arith}
use Rattle.std.specs.Option.{option_map}
use Rattle.c_text.specs.CNodes.{bytes_at, expr_of, args_in, operands_in, param_tree}
use Rattle.c_text.proofs.Parts.{args_rest}
use Rattle.c_meaning.specs.CTypes.{type_of, held_of, arg_types, passable, choice_type, function_named}
use Rattle.c_meaning.specs.CTypes as by_name
use Rattle.c_meaning.specs.CExprs.{is_object_pointer, combination_of}
use Rattle.c_form_exprs.specs.TypeViews.{value_in}
use Rattle.c_step_exprs.specs.declared.instrs.Instr.{Instr}
use Rattle.c_step_exprs.specs.declared.instrs.Instr.TheVariants as does
use Rattle.c_step_exprs.specs.Resolving.{value_code, place_code, address_code, args_code, operator_code, operands_code, call_code, arg_count, function_number}
use Rattle.c_step_load_exprs.specs.Codes.{PutsArms}
use Rattle.c_step_load_exprs.specs.Knowing.{program_scope}
use Rattle.c_step_load_exprs.proofs.CodeLemmas.{both, all_three, on_ok, behind_one}
use Rattle.c_step_load_exprs.proofs.ExprLemmas.{climbing_below, climbing_told, climbing_on, arg_put, arg_passed, args_passed, args_counted}
use Rattle.c_step_load_exprs.proofs.names.Names.+load_exprs.Goals.{call-in-Some, call-in-None}
use Rattle.c_step_load_exprs.proofs.names.Names.+load_exprs.Goals as goal

pub value-linked-requires : goal.value-linked-requires
value-linked-requires t c =
    let low : c.in-Some.link.0 ≤ c.args.e.0 = climbing_below c.args.self.now.scope.now.front.nodes (program_scope c.args.self.now.scope.now) c.args.e c.loop-link.links.items c.pop.new.self.items c.in-Some.link c.loop-link.found c.args.code.now.items c.loop-link.code.items c.in-Some.ensures.items c.loop-link.invariant in
    let within : c.args.e.0 < length c.args.self.now.scope.now.front.nodes.exprs = c.requires.e in
    (omega (arith, low, c.decreases), (c.requires.knows, (omega (arith, low, within), climbing_told c.args.self.now.scope.now.front.nodes (program_scope c.args.self.now.scope.now) c.args.e c.loop-link.links.items c.loop-link.found c.args.code.now.items c.loop-link.code.items c.loop-link.invariant)))

pub value-loop-link-preserved : goal.value-loop-link-preserved
value-loop-link-preserved t c = climbing_on c.args.self.now.scope.now.front.nodes (program_scope c.args.self.now.scope.now) c.args.e c.loop-link.links.items c.pop.new.self.items c.in-Some.link c.loop-link.found c.in_ok-found-2.found c.args.code.now.items c.loop-link.code.items c.linked.new.code.items c.in-Some.ensures.items c.loop-link.invariant (λ front link told. c.in_ok-found-2.ensures.code front link told) (λ front link told. c.in_ok-found-2.ensures.ty front link told)

pub args-loop-i-preserved : goal.args-loop-i-preserved
args-loop-i-preserved t c = record {
  within = omega (arith, c.loop-i-test.true);
  has = args_rest c.args.self.now.scope.now.front.nodes c.args.below c.args.given.now c.loop-i.i c.loop-i-test.true c.loop-i.invariant.has;
  so_far = arg_passed c.args.self.now.scope.now.front.nodes (program_scope c.args.self.now.scope.now) c.args.params.now c.args.given.now c.loop-i.i c.loop-i.fits (c.loop-i.fits && c.is_given-fits.result) (passable (map (param_tree c.args.self.now.scope.now.front.nodes.names) c.args.params.now) (arg_types (program_scope c.args.self.now.scope.now) (args_in c.args.self.now.scope.now.front.nodes.names (expr_of c.args.self.now.scope.now.front.nodes) c.args.given.now))) (option_map (value_in c.args.self.now.scope.now.front.nodes.names) c.in_ok-ty.ty) c.is_given-fits.result c.loop-i-test.true c.in_ok-ty.ensures.ty.0 c.is_given-fits.ensures refl c.loop-i.invariant.so_far;
  code_so_far = arg_put c.args.self.now.scope.now.front.nodes (program_scope c.args.self.now.scope.now) c.args.given.now c.loop-i.i c.loop-i.code.items c.arg.new.code.items (c.args.code.now.items ++ args_code (program_scope c.args.self.now.scope.now) (args_in c.args.self.now.scope.now.front.nodes.names (expr_of c.args.self.now.scope.now.front.nodes) c.args.given.now)) c.loop-i-test.true c.in_ok-ty.ensures.code c.loop-i.invariant.code_so_far;
}

pub args-returns-clause-fits : goal.args-returns-clause-fits
args-returns-clause-fits t c = args_passed c.args.self.now.scope.now.front.nodes (program_scope c.args.self.now.scope.now) c.args.params.now c.args.given.now c.loop-i.i c.loop-i.fits (passable (map (param_tree c.args.self.now.scope.now.front.nodes.names) c.args.params.now) (arg_types (program_scope c.args.self.now.scope.now) (args_in c.args.self.now.scope.now.front.nodes.names (expr_of c.args.self.now.scope.now.front.nodes) c.args.given.now))) (let w = c.loop-i.invariant.within in omega (arith, w, c.loop-i-test.false)) c.loop-i.invariant.so_far

pub arms-returns-in_ok-close_arms-in-Some-clause-code : goal.arms-returns-in_ok-close_arms-in-Some-clause-code
arms-returns-in_ok-close_arms-in-Some-clause-code t c =
    let told : option_map (value_in c.args.self.now.scope.now.front.nodes.names) c.common.result ≡ choice_type (type_of (program_scope c.args.self.now.scope.now) (expr_of c.args.self.now.scope.now.front.nodes c.args.met.0)) (type_of (program_scope c.args.self.now.scope.now) (expr_of c.args.self.now.scope.now.front.nodes c.args.unmet.0)) =
    c.common.ensures.0 ∙ (ap (λ (o : Option by_name.ExprType). choice_type o (option_map (value_in c.args.self.now.scope.now.front.nodes.names) c.in_ok-second.second)) c.in_ok-first.ensures.ty.0 ∙ ap (choice_type (type_of (program_scope c.args.self.now.scope.now) (expr_of c.args.self.now.scope.now.front.nodes c.args.met.0))) c.in_ok-second.ensures.ty.0) in
    let type : choice_type (type_of (program_scope c.args.self.now.scope.now) (expr_of c.args.self.now.scope.now.front.nodes c.args.met.0)) (type_of (program_scope c.args.self.now.scope.now) (expr_of c.args.self.now.scope.now.front.nodes c.args.unmet.0)) ≡ Some (value_in c.args.self.now.scope.now.front.nodes.names c.in-Some.ty) = sym told ∙ ap (option_map (value_in c.args.self.now.scope.now.front.nodes.names)) c.in-Some.is in
    let from : c.len-from.result ≡ length c.args.code.now.items = omega (arith, c.len-from.ensures, c.args.code.now.ok) in
    let size : length c.value.new.code.items ≡ length c.args.code.now.items + 1 + length (value_code (program_scope c.args.self.now.scope.now) (expr_of c.args.self.now.scope.now.front.nodes c.args.met.0)) = behind_one c.args.code.now.items c.put.new.code.items c.value.new.code.items (value_code (program_scope c.args.self.now.scope.now) (expr_of c.args.self.now.scope.now.front.nodes c.args.met.0)) does.Stuck c.in_ok-put.ensures c.in_ok-first.ensures.code in
    let middle : c.len-middle.result ≡ length c.args.code.now.items + 1 + length (value_code (program_scope c.args.self.now.scope.now) (expr_of c.args.self.now.scope.now.front.nodes c.args.met.0)) = omega (arith, c.len-middle.ensures, c.value.new.code.ok, size) in
    let opened = all_three c.args.code.now.items c.put.new.code.items c.value.new.code.items c.other_arm.new.code.items (does.Stuck ∷ []) (value_code (program_scope c.args.self.now.scope.now) (expr_of c.args.self.now.scope.now.front.nodes c.args.met.0)) (does.Stuck ∷ does.Stuck ∷ value_code (program_scope c.args.self.now.scope.now) (expr_of c.args.self.now.scope.now.front.nodes c.args.unmet.0)) c.in_ok-put.ensures c.in_ok-first.ensures.code c.in_ok-second.ensures.code in
    subst (λ (o : Option by_name.ExprType). PutsArms c.args.code.now.items c.close_arms.new.code.items (value_code (program_scope c.args.self.now.scope.now) (expr_of c.args.self.now.scope.now.front.nodes c.args.met.0)) (value_code (program_scope c.args.self.now.scope.now) (expr_of c.args.self.now.scope.now.front.nodes c.args.unmet.0)) o) (sym type)
    (c.in_ok-close_arms-in-Some.ensures c.args.self.now.scope.now.front.nodes.names (type_of (program_scope c.args.self.now.scope.now) (expr_of c.args.self.now.scope.now.front.nodes c.args.met.0)) (type_of (program_scope c.args.self.now.scope.now) (expr_of c.args.self.now.scope.now.front.nodes c.args.unmet.0)) c.args.code.now.items (value_code (program_scope c.args.self.now.scope.now) (expr_of c.args.self.now.scope.now.front.nodes c.args.met.0)) (value_code (program_scope c.args.self.now.scope.now) (expr_of c.args.self.now.scope.now.front.nodes c.args.unmet.0)) type opened from middle)

pub call-returns-clause-code : goal.call-returns-clause-code
call-returns-clause-code t c =
    let given = rw c.as_slice.ensures at c.in_ok-fits.ensures.code in
    let called : call_code (function_number (program_scope c.args.self.now.scope.now).functions (bytes_at c.args.self.now.scope.now.front.nodes.names c.args.it.now.function.0)) (arg_count (args_in c.args.self.now.scope.now.front.nodes.names (expr_of c.args.self.now.scope.now.front.nodes) c.args.it.now.args)) ≡ c.call.result ∷ [] =
    ap (λ (o : Option ℕ). call_code o (arg_count (args_in c.args.self.now.scope.now.front.nodes.names (expr_of c.args.self.now.scope.now.front.nodes) c.args.it.now.args))) (sym c.function_number-function.ensures)
    ∙ (ap (call_code c.function_number-function.result) (args_counted c.args.self.now.scope.now.front.nodes c.args.it.now.args ∙ sym (ap length c.as_slice-2.ensures)) ∙ c.call.ensures) in
    both c.args.code.now.items c.args-2.new.code.items c.put.new.code.items (args_code (program_scope c.args.self.now.scope.now) (args_in c.args.self.now.scope.now.front.nodes.names (expr_of c.args.self.now.scope.now.front.nodes) c.args.it.now.args)) (call_code (function_number (program_scope c.args.self.now.scope.now).functions (bytes_at c.args.self.now.scope.now.front.nodes.names c.args.it.now.function.0)) (arg_count (args_in c.args.self.now.scope.now.front.nodes.names (expr_of c.args.self.now.scope.now.front.nodes) c.args.it.now.args))) given
    (c.in_ok-put.ensures ∙ ap (λ (us : List Instr). c.args-2.new.code.items ++ us) (sym called))

pub call-returns-clause-ty : goal.call-returns-clause-ty
call-returns-clause-ty t c =
    let whole : c.in_ok-fits.fits ≡ passable (map (param_tree c.args.self.now.scope.now.front.nodes.names) c.match-head.params.now) (arg_types (program_scope c.args.self.now.scope.now) (args_in c.args.self.now.scope.now.front.nodes.names (expr_of c.args.self.now.scope.now.front.nodes) c.args.it.now.args)) = rw c.as_slice.ensures at c.in_ok-fits.ensures.fits in
    c.called.ensures (function_named (program_scope c.args.self.now.scope.now).functions (bytes_at c.args.self.now.scope.now.front.nodes.names c.args.it.now.function.0)) (arg_types (program_scope c.args.self.now.scope.now) (args_in c.args.self.now.scope.now.front.nodes.names (expr_of c.args.self.now.scope.now.front.nodes) c.args.it.now.args)) c.function-head.ensures
    (elim c.match-head.branch [ call-in-Some w ↦ rw w.in-Some.is (rw w.params-is at whole) | call-in-None w ↦ rw w.in-None.is tt ])

pub operation-returns-clause-code : goal.operation-returns-clause-code
operation-returns-clause-code t c =
    let object : c.is_object.result ≡ is_object_pointer (type_of (program_scope c.args.self.now.scope.now) (expr_of c.args.self.now.scope.now.front.nodes c.args.two.0.0)) = c.is_object.ensures c.args.self.now.scope.now.front.nodes.names ∙ ap is_object_pointer c.in_ok-first.ensures.ty.0 in
    rw (sym object) (on_ok c.operands.result _ _ (λ h. all_three c.args.code.now.items c.value.new.code.items c.operand.new.code.items c.operands.new.code.items (value_code (program_scope c.args.self.now.scope.now) (expr_of c.args.self.now.scope.now.front.nodes c.args.two.0.0)) (operator_code (combination_of c.args.op) c.is_object.result c.args.op (value_code (program_scope c.args.self.now.scope.now) (expr_of c.args.self.now.scope.now.front.nodes c.args.two.1.0))) (operands_code (program_scope c.args.self.now.scope.now) (combination_of c.args.op) c.is_object.result c.args.op (operands_in (expr_of c.args.self.now.scope.now.front.nodes) c.args.others.now)) c.in_ok-first.ensures.code c.in_ok-second.ensures.code h) c.operands.ensures.code)

pub place-returns-in_ok-ty-in-Index-clause-held : goal.place-returns-in_ok-ty-in-Index-clause-held
place-returns-in_ok-ty-in-Index-clause-held t c = rw (c.expr.ensures.tree, c.in-Index.is) (rw c.in_ok-ty-in-Index.ensures.ty.0 at c.element_place.ensures.held)

pub unary-returns-in_ok-put-in-Address-clause-code : goal.unary-returns-in_ok-put-in-Address-clause-code
unary-returns-in_ok-put-in-Address-clause-code t c =
    let at : address_code (held_of (program_scope c.args.self.now.scope.now) (expr_of c.args.self.now.scope.now.front.nodes c.args.of.0)) ≡ c.address.result ∷ [] = ap address_code (sym c.in_ok-held-in-Address.ensures.held.0) ∙ c.address.ensures c.args.self.now.scope.now.front.nodes.names in
    rw c.in-Address.is (both c.args.code.now.items c.place.new.code.items c.put.new.code.items (place_code (program_scope c.args.self.now.scope.now) (expr_of c.args.self.now.scope.now.front.nodes c.args.of.0)) (address_code (held_of (program_scope c.args.self.now.scope.now) (expr_of c.args.self.now.scope.now.front.nodes c.args.of.0))) c.in_ok-held-in-Address.ensures.code (c.in_ok-put-in-Address.ensures ∙ ap (λ (us : List Instr). c.place.new.code.items ++ us) (sym at)))
