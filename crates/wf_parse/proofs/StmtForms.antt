-- Of formed tokens the grammar makes formed statements; and so for targets, calls, clauses and blocks.
use Rattle.std.proofs.Common.{◌≡◌, true, ◌&&◌, List, ◌∷◌, refl}
use Rattle.wf_text.specs.declared.place.Place.{Place}
use Rattle.wf_ast.specs.OperatorForms.{updates}
use Rattle.wf_ast.specs.WellFormed.{formed_expr, formed_part, formed_given, is_marked, formed_call, formed_target, formed_clauses, formed_via, formed_stmt, formed_block, formed_arms}
use Rattle.wf_ast.proofs.BoolLemmas.{and-true}
use Rattle.wf_parse_grammar.specs.declared.tokens.Kind.TheVariants as kinds
use Rattle.wf_parse_grammar.specs.declared.tokens.Token.{Token}
use Rattle.wf_parse_grammar.specs.Grammar.{token, name_token, MarkForm, Exclaims, Asks, ExprForm}
use Rattle.wf_parse_grammar.specs.Grammar.{TargetForm, ToPath, ToElement, SignForm, Becomes, Updates, CallForm, MarkedCall, LabelPart, NoLabel, ALabel, ResultForm, NoResult, NothingResult, AResult, ViaForm, NoVia, AVia, ClausesForm, NoClause, ClauseComma, NextClause, EndForm, NoEnd, AnEnd, VarForm, AVar}
use Rattle.wf_parse_grammar.specs.Grammar.{StmtForm, Assignment, Keeping, Calling, Branching, Looping, Labelled, Breaking, Continuing, Returning, Yielding, Asserting, ElseForm, NoElse, ElseIf, Else, BlockForm, ABlock, ItemsForm, NoItem, FirstItem, MoreItemsForm, LastItem, ItemSemicolon, NextItem}
use Rattle.wf_parse_grammar.specs.Grammar.{mark_before, expr_before, givens_before, target_before, sign_before, call_before, label_before, result_before, via_before, clauses_before, end_before, var_before, stmt_before, else_before, block_before, items_before, more_items_before}
use Rattle.wf_parse_grammar.specs.Meaning.{mark_tree, expr_tree, given_trees, target_tree, sign_op, call_tree, result_tree, via_tree, clause_trees, var_tree, stmt_tree, else_trees, block_tree, items_tree, more_items_tree}
use Rattle.wf_parse.specs.TokenForms.{AreFormed}
use Rattle.wf_parse.proofs.ExprForms.{path-passed, on-passed, mark-passed, expr-formed, givens-formed, type-formed}

target-formed : (t : TargetForm) (rest : List Token) → AreFormed (target_before t rest) → (formed_target (target_tree t) ≡ true) × AreFormed rest
target-formed (ToPath path) rest a = (refl, path-passed path rest a)
target-formed (ToElement path l e r) rest a =
    let opened = path-passed path (token kinds.OpenSquare l ∷ expr_before e (token kinds.CloseSquare r ∷ rest)) a in
    let index = expr-formed e (token kinds.CloseSquare r ∷ rest) opened.1 in
    (index.0, index.1.1)

sign-formed : (s : SignForm) (rest : List Token) → AreFormed (sign_before s rest) → (updates (sign_op s) ≡ true) × AreFormed rest
sign-formed (Becomes p) rest a = (refl, a.1)
sign-formed (Updates op p) rest a = (a.0, a.1)

-- A call that is a statement is written with its mark.
marked : (m : MarkForm) → is_marked (mark_tree m) ≡ true
marked (Exclaims p) = refl
marked (Asks p) = refl

call-formed : (c : CallForm) (rest : List Token) → AreFormed (call_before c rest) → (formed_call (call_tree c) ≡ true) × AreFormed rest
call-formed (MarkedCall on d n m l gs r) rest a =
    let named = on-passed on (token kinds.Dot d ∷ name_token n ∷ mark_before m (token kinds.OpenRound l ∷ givens_before gs (token kinds.CloseRound r ∷ rest))) a in
    let opened = mark-passed m (token kinds.OpenRound l ∷ givens_before gs (token kinds.CloseRound r ∷ rest)) named.1.1 in
    let args = givens-formed gs (token kinds.CloseRound r ∷ rest) opened.1 in
    (and-true (is_marked (mark_tree m)) (formed_given (given_trees gs)) (marked m) args.0, args.1.1)

label-passed : (l : LabelPart) (rest : List Token) → AreFormed (label_before l rest) → AreFormed rest
label-passed NoLabel rest a = a
label-passed (ALabel d n) rest a = a.1.1

result-formed : (r : ResultForm) (rest : List Token) → AreFormed (result_before r rest) → (formed_part (result_tree r) ≡ true) × AreFormed rest
result-formed NoResult rest a = (refl, a)
result-formed (NothingResult p) rest a = (refl, a.1)
result-formed (AResult e) rest a = expr-formed e rest a

via-formed : (v : ViaForm) (rest : List Token) → AreFormed (via_before v rest) → (formed_via (via_tree v) ≡ true) × AreFormed rest
via-formed NoVia rest a = (refl, a)
via-formed (AVia p n l gs r) rest a =
    let given = givens-formed gs (token kinds.CloseRound r ∷ rest) a.1.1.1 in
    (given.0, given.1.1)

clauses-formed : (cs : ClausesForm) (rest : List Token) → AreFormed (clauses_before cs rest) → (formed_clauses (clause_trees cs) ≡ true) × AreFormed rest
clauses-formed NoClause rest a = (refl, a)
clauses-formed (ClauseComma p) rest a = (refl, a.1)
clauses-formed (NextClause p c w e more) rest a =
    let condition = expr-formed e (clauses_before more rest) a.1.1 in
    let others = clauses-formed more rest condition.1 in
    (and-true (formed_expr (expr_tree e)) (formed_clauses (clause_trees more)) condition.0 others.0, others.1)

end-passed : (o : EndForm) (rest : List Token) → AreFormed (end_before o rest) → AreFormed rest
end-passed NoEnd rest a = a
end-passed (AnEnd p) rest a = a.1

pub var-formed : (v : VarForm) (rest : List Token) → AreFormed (var_before v rest) → (formed_stmt (var_tree v) ≡ true) × AreFormed rest
var-formed (AVar p n c t) rest a = type-formed t rest a.1.1.1

-- A loop of its parts.
loop-formed : (e : ExprForm) (cs : ClausesForm) (b : BlockForm) → formed_expr (expr_tree e) ≡ true → formed_clauses (clause_trees cs) ≡ true → formed_block (block_tree b) ≡ true
    → (formed_expr (expr_tree e) && (formed_clauses (clause_trees cs) && formed_block (block_tree b))) ≡ true
loop-formed e cs b h k l =
    and-true (formed_expr (expr_tree e)) (formed_clauses (clause_trees cs) && formed_block (block_tree b)) h (and-true (formed_clauses (clause_trees cs)) (formed_block (block_tree b)) k l)

mutual
  pub stmt-formed : (s : StmtForm) (rest : List Token) → AreFormed (stmt_before s rest) → (formed_stmt (stmt_tree s) ≡ true) × AreFormed rest
  stmt-formed (Assignment t s e) rest a =
      let target = target-formed t (sign_before s (expr_before e rest)) a in
      let sign = sign-formed s (expr_before e rest) target.1 in
      let value = expr-formed e rest sign.1 in
      let sides = and-true (formed_target (target_tree t)) (formed_expr (expr_tree e)) target.0 value.0 in
      (and-true (updates (sign_op s)) (formed_target (target_tree t) && formed_expr (expr_tree e)) sign.0 sides, value.1)
  stmt-formed (Keeping t p c) rest a =
      let target = target-formed t (token kinds.KeepEquals p ∷ call_before c rest) a in
      let value = call-formed c rest target.1.1 in
      (and-true (formed_target (target_tree t)) (formed_call (call_tree c)) target.0 value.0, value.1)
  stmt-formed (Calling c) rest a = call-formed c rest a
  stmt-formed (Branching p e b o) rest a =
      let condition = expr-formed e (block_before b (else_before o rest)) a.1 in
      let body = block-formed b (else_before o rest) condition.1 in
      let others = else-formed o rest body.1 in
      let blocks = and-true (formed_block (block_tree b)) (formed_arms (else_trees o)) body.0 others.0 in
      (and-true (formed_expr (expr_tree e)) (formed_block (block_tree b) && formed_arms (else_trees o)) condition.0 blocks, others.1)
  stmt-formed (Looping p e cs b o) rest a =
      let condition = expr-formed e (clauses_before cs (block_before b (end_before o rest))) a.1 in
      let clauses = clauses-formed cs (block_before b (end_before o rest)) condition.1 in
      let body = block-formed b (end_before o rest) clauses.1 in
      (loop-formed e cs b condition.0 clauses.0 body.0, end-passed o rest body.1)
  stmt-formed (Labelled p d n e cs b w x y) rest a =
      let behind : List Token = token kinds.Endwhile w ∷ token kinds.Dot x ∷ token (kinds.Name n.text) y ∷ rest in
      let condition = expr-formed e (clauses_before cs (block_before b behind)) a.1.1.1 in
      let clauses = clauses-formed cs (block_before b behind) condition.1 in
      let body = block-formed b behind clauses.1 in
      (loop-formed e cs b condition.0 clauses.0 body.0, body.1.1.1.1)
  stmt-formed (Breaking p l) rest a = (refl, label-passed l rest a.1)
  stmt-formed (Continuing p l) rest a = (refl, label-passed l rest a.1)
  stmt-formed (Returning p r) rest a = result-formed r rest a.1
  stmt-formed (Yielding p q e) rest a = expr-formed e rest a.1.1
  stmt-formed (Asserting p e v) rest a =
      let goal = expr-formed e (via_before v rest) a.1 in
      let axiom_named = via-formed v rest goal.1 in
      (and-true (formed_expr (expr_tree e)) (formed_via (via_tree v)) goal.0 axiom_named.0, axiom_named.1)

  else-formed : (o : ElseForm) (rest : List Token) → AreFormed (else_before o rest) → (formed_arms (else_trees o) ≡ true) × AreFormed rest
  else-formed NoElse rest a = (refl, a)
  else-formed (ElseIf p q e b o) rest a =
      let condition = expr-formed e (block_before b (else_before o rest)) a.1.1 in
      let body = block-formed b (else_before o rest) condition.1 in
      let others = else-formed o rest body.1 in
      let blocks = and-true (formed_block (block_tree b)) (formed_arms (else_trees o)) body.0 others.0 in
      (and-true (formed_expr (expr_tree e)) (formed_block (block_tree b) && formed_arms (else_trees o)) condition.0 blocks, others.1)
  else-formed (Else p b) rest a = block-formed b rest a.1

  block-formed : (b : BlockForm) (rest : List Token) → AreFormed (block_before b rest) → (formed_block (block_tree b) ≡ true) × AreFormed rest
  block-formed (ABlock l items r) rest a = items-formed items r rest a.1

  items-formed : (items : ItemsForm) (r : Place) (rest : List Token) → AreFormed (items_before items (token kinds.CloseCurly r ∷ rest)) → (formed_block (items_tree items r) ≡ true) × AreFormed rest
  items-formed NoItem r rest a = (refl, a.1)
  items-formed (FirstItem s more) r rest a =
      let first = stmt-formed s (more_items_before more (token kinds.CloseCurly r ∷ rest)) a in
      let others = more-items-formed more r rest first.1 in
      (and-true (formed_stmt (stmt_tree s)) (formed_block (more_items_tree more r)) first.0 others.0, others.1)

  pub more-items-formed : (more : MoreItemsForm) (r : Place) (rest : List Token) → AreFormed (more_items_before more (token kinds.CloseCurly r ∷ rest)) → (formed_block (more_items_tree more r) ≡ true) × AreFormed rest
  more-items-formed LastItem r rest a = (refl, a.1)
  more-items-formed (ItemSemicolon p) r rest a = (refl, a.1.1)
  more-items-formed (NextItem p s more) r rest a =
      let first = stmt-formed s (more_items_before more (token kinds.CloseCurly r ∷ rest)) a.1 in
      let others = more-items-formed more r rest first.1 in
      (and-true (formed_stmt (stmt_tree s)) (formed_block (more_items_tree more r)) first.0 others.0, others.1)
