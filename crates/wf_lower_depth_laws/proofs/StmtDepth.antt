-- A statement opens no more brackets than its tokens.
use Rattle.std.proofs.Common.{◌≡◌, ℕ, ◌-◌, true, ◌&&◌, List, ◌∷◌, refl}
use Rattle.std.specs.Prelude.{nat_le}
use Rattle.wf_text.specs.declared.place.Place.{Place}
use Rattle.wf_ast.proofs.BoolLemmas.{and-true}
use Rattle.wf_parse_grammar.specs.declared.tokens.Kind.TheVariants as kinds
use Rattle.wf_parse_grammar.specs.declared.tokens.Token.{Token}
use Rattle.wf_parse_grammar.specs.Grammar.{token, name_token}
use Rattle.wf_parse_grammar.specs.Grammar.{TargetForm, ToPath, ToElement, SignForm, Becomes, Updates, CallForm, MarkedCall, LabelPart, NoLabel, ALabel, ResultForm, NoResult, NothingResult, AResult, ViaForm, NoVia, AVia, ClausesForm, NoClause, ClauseComma, NextClause, EndForm, NoEnd, AnEnd, VarForm, AVar}
use Rattle.wf_parse_grammar.specs.Grammar.{StmtForm, Assignment, Keeping, Calling, Branching, Looping, Labelled, Breaking, Continuing, Returning, Yielding, Asserting, ElseForm, NoElse, ElseIf, Else, BlockForm, ABlock, ItemsForm, NoItem, FirstItem, MoreItemsForm, LastItem, ItemSemicolon, NextItem}
use Rattle.wf_parse_grammar.specs.Grammar.{mark_before, expr_before, givens_before, target_before, sign_before, call_before, label_before, result_before, via_before, clauses_before, end_before, var_before, stmt_before, else_before, block_before, items_before, more_items_before}
use Rattle.wf_parse_grammar.specs.Meaning.{expr_tree, given_trees, target_tree, call_tree, result_tree, var_tree, stmt_tree, else_trees, block_tree, items_tree, more_items_tree}
use Rattle.wf_lower_depth_laws.specs.WrittenDepth.{alone, expr_opens, part_opens, given_opens, call_opens, target_opens, stmt_opens, block_opens, arms_open}
use Rattle.wf_lower_depth_laws.proofs.Room.{Fits, shut, one_left, path_passed, on_passed, mark_passed, clause_passed}
use Rattle.wf_lower_depth_laws.proofs.ExprDepth.{expr_few, givens_few, type_passed}

target_few : (r : ℕ) (t : TargetForm) (rest : List Token) → Fits r (target_before t rest) → (target_opens r (target_tree t) ≡ true) × Fits r rest
target_few r (ToPath path) rest a = (refl, path_passed r path rest a)
target_few r (ToElement path l e s) rest a =
    let open_at = path_passed r path (token kinds.OpenSquare l ∷ expr_before e (token kinds.CloseSquare s ∷ rest)) a in
    let index = expr_few (r - 1) e (token kinds.CloseSquare s ∷ rest) open_at.1 in
    (and-true (nat_le 1 r) (expr_opens alone (r - 1) (expr_tree e)) (one_left r (open_at.0 refl)) index.0, shut r rest (open_at.0 refl) index.1.1)

sign_passed : (r : ℕ) (s : SignForm) (rest : List Token) → Fits r (sign_before s rest) → Fits r rest
sign_passed r (Becomes p) rest a = a.1
sign_passed r (Updates op p) rest a = a.1

call_few : (r : ℕ) (c : CallForm) (rest : List Token) → Fits r (call_before c rest) → (call_opens r (call_tree c) ≡ true) × Fits r rest
call_few r (MarkedCall on d n m l gs s) rest a =
    let named = on_passed r on (token kinds.Dot d ∷ name_token n ∷ mark_before m (token kinds.OpenRound l ∷ givens_before gs (token kinds.CloseRound s ∷ rest))) a in
    let open_at = mark_passed r m (token kinds.OpenRound l ∷ givens_before gs (token kinds.CloseRound s ∷ rest)) named.1.1 in
    let args = givens_few (r - 1) gs (token kinds.CloseRound s ∷ rest) open_at.1 in
    (and-true (nat_le 1 r) (given_opens (r - 1) (given_trees gs)) (one_left r (open_at.0 refl)) args.0, shut r rest (open_at.0 refl) args.1.1)

label_passed : (r : ℕ) (l : LabelPart) (rest : List Token) → Fits r (label_before l rest) → Fits r rest
label_passed r NoLabel rest a = a
label_passed r (ALabel d n) rest a = a.1.1

result_few : (r : ℕ) (f : ResultForm) (rest : List Token) → Fits r (result_before f rest) → (part_opens r (result_tree f) ≡ true) × Fits r rest
result_few r NoResult rest a = (refl, a)
result_few r (NothingResult p) rest a = (refl, a.1)
result_few r (AResult e) rest a = expr_few r e rest a

via_passed : (r : ℕ) (v : ViaForm) (rest : List Token) → Fits r (via_before v rest) → Fits r rest
via_passed r NoVia rest a = a
via_passed r (AVia p n l gs s) rest a =
    let given = givens_few (r - 1) gs (token kinds.CloseRound s ∷ rest) a.1.1.1 in
    shut r rest (a.1.1.0 refl) given.1.1

clauses_passed : (r : ℕ) (cs : ClausesForm) (rest : List Token) → Fits r (clauses_before cs rest) → Fits r rest
clauses_passed r NoClause rest a = a
clauses_passed r (ClauseComma p) rest a = a.1
clauses_passed r (NextClause p c w e more) rest a =
    let condition = expr_few r e (clauses_before more rest) (clause_passed r c w (expr_before e (clauses_before more rest)) a.1) in
    clauses_passed r more rest condition.1

end_passed : (r : ℕ) (o : EndForm) (rest : List Token) → Fits r (end_before o rest) → Fits r rest
end_passed r NoEnd rest a = a
end_passed r (AnEnd p) rest a = a.1

pub var_few : (r : ℕ) (v : VarForm) (rest : List Token) → Fits r (var_before v rest) → (stmt_opens r (var_tree v) ≡ true) × Fits r rest
var_few r (AVar p n c t) rest a = (refl, type_passed r t rest a.1.1.1)

mutual
  pub stmt_few : (r : ℕ) (s : StmtForm) (rest : List Token) → Fits r (stmt_before s rest) → (stmt_opens r (stmt_tree s) ≡ true) × Fits r rest
  stmt_few r (Assignment t s e) rest a =
      let target = target_few r t (sign_before s (expr_before e rest)) a in
      let value = expr_few r e rest (sign_passed r s (expr_before e rest) target.1) in
      (and-true (target_opens r (target_tree t)) (expr_opens alone r (expr_tree e)) target.0 value.0, value.1)
  stmt_few r (Keeping t p c) rest a =
      let target = target_few r t (token kinds.KeepEquals p ∷ call_before c rest) a in
      let value = call_few r c rest target.1.1 in
      (and-true (target_opens r (target_tree t)) (call_opens r (call_tree c)) target.0 value.0, value.1)
  stmt_few r (Calling c) rest a = call_few r c rest a
  stmt_few r (Branching p e b o) rest a =
      let condition = expr_few r e (block_before b (else_before o rest)) a.1 in
      let body = block_few r b (else_before o rest) condition.1 in
      let others = else_few r o rest body.1 in
      let blocks = and-true (nat_le 1 r && block_opens (r - 1) (block_tree b)) (arms_open r (else_trees o)) body.0 others.0 in
      (and-true (expr_opens alone r (expr_tree e)) ((nat_le 1 r && block_opens (r - 1) (block_tree b)) && arms_open r (else_trees o)) condition.0 blocks, others.1)
  stmt_few r (Looping p e cs b o) rest a =
      let condition = expr_few r e (clauses_before cs (block_before b (end_before o rest))) a.1 in
      let body = block_few r b (end_before o rest) (clauses_passed r cs (block_before b (end_before o rest)) condition.1) in
      (and-true (expr_opens alone r (expr_tree e)) (nat_le 1 r && block_opens (r - 1) (block_tree b)) condition.0 body.0, end_passed r o rest body.1)
  stmt_few r (Labelled p d n e cs b w x y) rest a =
      let behind : List Token = token kinds.Endwhile w ∷ token kinds.Dot x ∷ token (kinds.Name n.text) y ∷ rest in
      let condition = expr_few r e (clauses_before cs (block_before b behind)) a.1.1.1 in
      let body = block_few r b behind (clauses_passed r cs (block_before b behind) condition.1) in
      (and-true (expr_opens alone r (expr_tree e)) (nat_le 1 r && block_opens (r - 1) (block_tree b)) condition.0 body.0, body.1.1.1.1)
  stmt_few r (Breaking p l) rest a = (refl, label_passed r l rest a.1)
  stmt_few r (Continuing p l) rest a = (refl, label_passed r l rest a.1)
  stmt_few r (Returning p f) rest a = result_few r f rest a.1
  stmt_few r (Yielding p q e) rest a = let it = expr_few r e rest a.1.1 in (refl, it.1)
  stmt_few r (Asserting p e v) rest a = let it = expr_few r e (via_before v rest) a.1 in (refl, via_passed r v rest it.1)

  else_few : (r : ℕ) (o : ElseForm) (rest : List Token) → Fits r (else_before o rest) → (arms_open r (else_trees o) ≡ true) × Fits r rest
  else_few r NoElse rest a = (refl, a)
  else_few r (ElseIf p q e b o) rest a =
      let condition = expr_few r e (block_before b (else_before o rest)) a.1.1 in
      let body = block_few r b (else_before o rest) condition.1 in
      let others = else_few r o rest body.1 in
      let blocks = and-true (nat_le 1 r && block_opens (r - 1) (block_tree b)) (arms_open r (else_trees o)) body.0 others.0 in
      (and-true (expr_opens alone r (expr_tree e)) ((nat_le 1 r && block_opens (r - 1) (block_tree b)) && arms_open r (else_trees o)) condition.0 blocks, others.1)
  else_few r (Else p b) rest a = block_few r b rest a.1

  block_few : (r : ℕ) (b : BlockForm) (rest : List Token) → Fits r (block_before b rest) → ((nat_le 1 r && block_opens (r - 1) (block_tree b)) ≡ true) × Fits r rest
  block_few r (ABlock l items s) rest a =
      let inner = items_few (r - 1) items s (token kinds.CloseCurly s ∷ rest) a.1 in
      (and-true (nat_le 1 r) (block_opens (r - 1) (items_tree items s)) (one_left r (a.0 refl)) inner.0, shut r rest (a.0 refl) inner.1.1)

  items_few : (r : ℕ) (items : ItemsForm) (end : Place) (rest : List Token) → Fits r (items_before items rest) → (block_opens r (items_tree items end) ≡ true) × Fits r rest
  items_few r NoItem end rest a = (refl, a)
  items_few r (FirstItem s more) end rest a =
      let first = stmt_few r s (more_items_before more rest) a in
      let others = more_items_few r more end rest first.1 in
      (and-true (stmt_opens r (stmt_tree s)) (block_opens r (more_items_tree more end)) first.0 others.0, others.1)

  pub more_items_few : (r : ℕ) (more : MoreItemsForm) (end : Place) (rest : List Token) → Fits r (more_items_before more rest) → (block_opens r (more_items_tree more end) ≡ true) × Fits r rest
  more_items_few r LastItem end rest a = (refl, a)
  more_items_few r (ItemSemicolon p) end rest a = (refl, a.1)
  more_items_few r (NextItem p s more) end rest a =
      let first = stmt_few r s (more_items_before more rest) a.1 in
      let others = more_items_few r more end rest first.1 in
      (and-true (stmt_opens r (stmt_tree s)) (block_opens r (more_items_tree more end)) first.0 others.0, others.1)
