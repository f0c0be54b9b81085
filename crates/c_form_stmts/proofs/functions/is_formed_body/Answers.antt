use Rattle.std.proofs.Common.{◌≡◌, Bool, true, false, map, IfOk, sym, ◌∙◌, ap, subst, option_map}
use Rattle.c_text.specs.CNodes.{Nodes, type_in, code_of}
use Rattle.c_form_exprs.specs.Front.{scope_in}
use Rattle.c_form_stmts.specs.Lines.{line_in, lines_of}
use Rattle.c_form_stmts.proofs.FlatLaws.{body_by_labels, body_unformed, some_told, none_told}
use Rattle.c_form_stmts.proofs.functions.is_formed_body.Goals as goal

pub returns-in-Some : goal.returns-in-Some
returns-in-Some c =
    let lists : map (line_in c.unit-unit.result.now) c.in_ok-listed.listed.items ≡ lines_of true false (code_of c.args.scope.now.front.nodes c.args.body.0) = c.in_ok-listed.ensures.lines ∙ ap (λ (n : Nodes). lines_of true false (code_of n c.args.body.0)) c.unit-unit.ensures in
    let is : map (line_in c.unit-unit.result.now) c.as_slice.result.now ≡ lines_of true false (code_of c.args.scope.now.front.nodes c.args.body.0) = ap (map (line_in c.unit-unit.result.now)) c.as_slice.ensures.value ∙ lists in
    let too : map (line_in c.args.scope.now.front.nodes) c.as_slice-in-Some.result.now ≡ lines_of true false (code_of c.args.scope.now.front.nodes c.args.body.0) = ap (map (line_in c.args.scope.now.front.nodes)) c.as_slice-in-Some.ensures.value ∙ (ap (λ (n : Nodes). map (line_in n) c.in_ok-listed.listed.items) (sym c.unit-unit.ensures) ∙ lists) in
    subst (λ (b : Bool). IfOk c.are_formed.result (λ formed. formed ≡ b)) (sym (body_by_labels (record { scope = scope_in c.args.scope.now; linkage = c.args.linkage; result_type = option_map (type_in c.args.scope.now.front.nodes.names) c.args.result_type; body = code_of c.args.scope.now.front.nodes c.args.body.0 }) c.in-Some.labels (map (line_in c.unit-unit.result.now) c.as_slice.result.now) (map (line_in c.args.scope.now.front.nodes) c.as_slice-in-Some.result.now) is too (some_told _ _ c.in_ok-labels.field-0 c.in-Some.labels c.in-Some.is c.in_ok-labels.ensures))) c.are_formed.ensures

pub returns : goal.returns
returns c =
    let lists : map (line_in c.unit-unit.result.now) c.in_ok-listed.listed.items ≡ lines_of true false (code_of c.args.scope.now.front.nodes c.args.body.0) = c.in_ok-listed.ensures.lines ∙ ap (λ (n : Nodes). lines_of true false (code_of n c.args.body.0)) c.unit-unit.ensures in
    let is : map (line_in c.unit-unit.result.now) c.as_slice.result.now ≡ lines_of true false (code_of c.args.scope.now.front.nodes c.args.body.0) = ap (map (line_in c.unit-unit.result.now)) c.as_slice.ensures.value ∙ lists in
    body_unformed (record { scope = scope_in c.args.scope.now; linkage = c.args.linkage; result_type = option_map (type_in c.args.scope.now.front.nodes.names) c.args.result_type; body = code_of c.args.scope.now.front.nodes c.args.body.0 }) (map (line_in c.unit-unit.result.now) c.as_slice.result.now) is (none_told _ _ c.in_ok-labels.field-0 c.in-None.is c.in_ok-labels.ensures)
