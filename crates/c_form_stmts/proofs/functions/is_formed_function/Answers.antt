use Rattle.std.proofs.Common.{◌≡◌, Bool, IfOk, subst}
use Rattle.c_form_stmts.specs.Names.{is_in}
use Rattle.c_form_stmts.proofs.FunctionLaws.{no_result, no_params, no_locals, body_left}
use Rattle.c_form_stmts.proofs.functions.is_formed_function.Goals as goal

pub returns-then-not-is_result : goal.returns-then-not-is_result
returns-then-not-is_result c all is = no_result c.args.front.now all (is_in c.args.items.now) is c.args.parts (c.if-not-is_result.ensures c.args.front.now.nodes.names)

pub returns-then-not-branch : goal.returns-then-not-branch
returns-then-not-branch c all is = no_params c.args.front.now all (is_in c.args.items.now) is c.args.parts (c.if-not-is_result.ensures c.args.front.now.nodes.names) c.new-scope.result c.new-scope.ensures c.in_ok-add_params.field-0 c.if-not-branch.true c.in_ok-add_params.ensures.fits

pub returns-then-not-branch-2 : goal.returns-then-not-branch-2
returns-then-not-branch-2 c all is = no_locals c.args.front.now all (is_in c.args.items.now) is c.args.parts (c.if-not-is_result.ensures c.args.front.now.nodes.names) c.new-scope.result c.new-scope.ensures c.add_params.new.scope c.in_ok-add_params.field-0 c.if-not-branch.false c.in_ok-add_params.ensures.fits c.in_ok-add_params.ensures.front c.in_ok-add_params.ensures.added c.in_ok-add_locals.field-0 c.if-not-branch-2.true c.in_ok-add_locals.ensures.fits

pub returns : goal.returns
returns c all is = subst (λ (b : Bool). IfOk c.is_formed_body.result (λ formed. formed ≡ b)) (body_left c.args.front.now all (is_in c.args.items.now) is c.args.parts (c.if-not-is_result.ensures c.args.front.now.nodes.names) c.new-scope.result c.new-scope.ensures c.add_params.new.scope c.in_ok-add_params.field-0 c.if-not-branch.false c.in_ok-add_params.ensures.fits c.in_ok-add_params.ensures.front c.in_ok-add_params.ensures.added c.add_locals.new.scope c.in_ok-add_locals.field-0 c.if-not-branch-2.false c.in_ok-add_locals.ensures.fits c.in_ok-add_locals.ensures.front c.in_ok-add_locals.ensures.added) c.is_formed_body.ensures
