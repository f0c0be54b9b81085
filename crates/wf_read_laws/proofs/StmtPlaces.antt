-- Where the tokens of a statement stand, there stand all its names and places; and so for targets, calls, clauses and
-- blocks.
use Rattle.std.proofs.Common.{List, ◌∷◌}
use Rattle.wf_text.specs.declared.place.Place.{Place}
use Rattle.wf_parse_grammar.specs.declared.tokens.Kind.TheVariants as kinds
use Rattle.wf_parse_grammar.specs.declared.tokens.Token.{Token}
use Rattle.wf_parse_grammar.specs.Grammar.{token, name_token}
use Rattle.wf_parse_grammar.specs.Grammar.{OnForm, OnThis, OnPath}
use Rattle.wf_parse_grammar.specs.Grammar.{TargetForm, ToPath, ToElement, SignForm, Becomes, Updates, CallForm, MarkedCall, LabelPart, NoLabel, ALabel, ResultForm, NoResult, NothingResult, AResult, ViaForm, NoVia, AVia, ClausesForm, NoClause, ClauseComma, NextClause, EndForm, NoEnd, AnEnd, VarForm, AVar}
use Rattle.wf_parse_grammar.specs.Grammar.{StmtForm, Assignment, Keeping, Calling, Branching, Looping, Labelled, Breaking, Continuing, Returning, Yielding, Asserting, ElseForm, NoElse, ElseIf, Else, BlockForm, ABlock, ItemsForm, NoItem, FirstItem, MoreItemsForm, LastItem, ItemSemicolon, NextItem}
use Rattle.wf_parse_grammar.specs.Grammar.{mark_before, expr_before, givens_before, target_before, sign_before, call_before, label_before, result_before, via_before, clauses_before, end_before, var_before, stmt_before, else_before, block_before, items_before, more_items_before}
use Rattle.wf_parse_grammar.specs.Meaning.{on_tree, target_tree, target_start, on_start, call_start, sign_place, call_tree, label_tree, result_tree, via_tree, clause_trees, var_tree, stmt_tree, else_trees, block_tree, items_tree, more_items_tree}
use Rattle.wf_read_laws.specs.Places.{ReceiverIsIn, PartIsIn, TargetIsIn, CallIsIn, LabelIsIn, ViaIsIn, ClausesAreIn, StmtIsIn, ArmsAreIn, BlockIsIn}
use Rattle.wf_read_laws.proofs.ExprPlaces.{TokensAreIn, path-in, on-in, mark-in, expr-in, givens-in, type-in}

module _ (In : Place → Type 0) where
  -- A target, and the place where it begins.
  target-in : (t : TargetForm) (rest : List Token) → TokensAreIn In (target_before t rest) → (TargetIsIn In (target_tree t) × In (target_start t)) × TokensAreIn In rest
  target-in (ToPath path) rest a = let to = path-in In path rest a in ((to.0, to.0.1), to.1)
  target-in (ToElement path l e r) rest a =
      let base = path-in In path (token kinds.OpenSquare l ∷ expr_before e (token kinds.CloseSquare r ∷ rest)) a in
      let index = expr-in In e (token kinds.CloseSquare r ∷ rest) base.1.1 in
      (((base.0, index.0, base.1.0), base.0.1), index.1.1)

  sign-in : (s : SignForm) (rest : List Token) → TokensAreIn In (sign_before s rest) → In (sign_place s) × TokensAreIn In rest
  sign-in (Becomes p) rest a = (a.0, a.1)
  sign-in (Updates op p) rest a = (a.0, a.1)

  start-in : (on : OnForm) → ReceiverIsIn In (on_tree on) → In (on_start on)
  start-in (OnThis p) h = h
  start-in (OnPath path) h = h.1

  call-in : (c : CallForm) (rest : List Token) → TokensAreIn In (call_before c rest) → (CallIsIn In (call_tree c) × In (call_start c)) × TokensAreIn In rest
  call-in (MarkedCall on d n m l gs r) rest a =
      let receiver = on-in In on (token kinds.Dot d ∷ name_token n ∷ mark_before m (token kinds.OpenRound l ∷ givens_before gs (token kinds.CloseRound r ∷ rest))) a in
      let opened = mark-in In m (token kinds.OpenRound l ∷ givens_before gs (token kinds.CloseRound r ∷ rest)) receiver.1.1.1 in
      let args = givens-in In gs (token kinds.CloseRound r ∷ rest) opened.1 in
      (((receiver.0, receiver.1.1.0, args.0), start-in on receiver.0), args.1.1)

  label-in : (l : LabelPart) (rest : List Token) → TokensAreIn In (label_before l rest) → LabelIsIn In (label_tree l) × TokensAreIn In rest
  label-in NoLabel rest a = (tt, a)
  label-in (ALabel d n) rest a = (a.1.0, a.1.1)

  result-in : (r : ResultForm) (rest : List Token) → TokensAreIn In (result_before r rest) → PartIsIn In (result_tree r) × TokensAreIn In rest
  result-in NoResult rest a = (tt, a)
  result-in (NothingResult p) rest a = (tt, a.1)
  result-in (AResult e) rest a = expr-in In e rest a

  via-in : (v : ViaForm) (rest : List Token) → TokensAreIn In (via_before v rest) → ViaIsIn In (via_tree v) × TokensAreIn In rest
  via-in NoVia rest a = (tt, a)
  via-in (AVia p n l gs r) rest a =
      let given = givens-in In gs (token kinds.CloseRound r ∷ rest) a.1.1.1 in
      ((a.1.0, given.0), given.1.1)

  clauses-in : (cs : ClausesForm) (rest : List Token) → TokensAreIn In (clauses_before cs rest) → ClausesAreIn In (clause_trees cs) × TokensAreIn In rest
  clauses-in NoClause rest a = (tt, a)
  clauses-in (ClauseComma p) rest a = (tt, a.1)
  clauses-in (NextClause p c w e more) rest a =
      let condition = expr-in In e (clauses_before more rest) a.1.1 in
      let others = clauses-in more rest condition.1 in
      ((condition.0, a.1.0, others.0), others.1)

  end-in : (o : EndForm) (rest : List Token) → TokensAreIn In (end_before o rest) → TokensAreIn In rest
  end-in NoEnd rest a = a
  end-in (AnEnd p) rest a = a.1

  pub var-in : (v : VarForm) (rest : List Token) → TokensAreIn In (var_before v rest) → StmtIsIn In (var_tree v) × TokensAreIn In rest
  var-in (AVar p n c t) rest a = let of = type-in In t rest a.1.1.1 in ((a.1.0, of.0, a.0), of.1)

  mutual
    pub stmt-in : (s : StmtForm) (rest : List Token) → TokensAreIn In (stmt_before s rest) → StmtIsIn In (stmt_tree s) × TokensAreIn In rest
    stmt-in (Assignment t s e) rest a =
        let target = target-in t (sign_before s (expr_before e rest)) a in
        let sign = sign-in s (expr_before e rest) target.1 in
        let value = expr-in In e rest sign.1 in
        ((target.0.0, sign.0, value.0, target.0.1), value.1)
    stmt-in (Keeping t p c) rest a =
        let target = target-in t (token kinds.KeepEquals p ∷ call_before c rest) a in
        let value = call-in c rest target.1.1 in
        ((target.0.0, value.0.0, target.0.1), value.1)
    stmt-in (Calling c) rest a = call-in c rest a
    stmt-in (Branching p e b o) rest a =
        let condition = expr-in In e (block_before b (else_before o rest)) a.1 in
        let body = block-in b (else_before o rest) condition.1 in
        let others = else-in o rest body.1 in
        (((condition.0, body.0, others.0), a.0), others.1)
    stmt-in (Looping p e cs b o) rest a =
        let condition = expr-in In e (clauses_before cs (block_before b (end_before o rest))) a.1 in
        let clauses = clauses-in cs (block_before b (end_before o rest)) condition.1 in
        let body = block-in b (end_before o rest) clauses.1 in
        ((tt, condition.0, clauses.0, body.0, a.0), end-in o rest body.1)
    stmt-in (Labelled p d n e cs b w x y) rest a =
        let behind : List Token = token kinds.Endwhile w ∷ token kinds.Dot x ∷ token (kinds.Name n.text) y ∷ rest in
        let condition = expr-in In e (clauses_before cs (block_before b behind)) a.1.1.1 in
        let clauses = clauses-in cs (block_before b behind) condition.1 in
        let body = block-in b behind clauses.1 in
        ((a.1.1.0, condition.0, clauses.0, body.0, a.0), body.1.1.1.1)
    stmt-in (Breaking p l) rest a = let label = label-in l rest a.1 in ((label.0, a.0), label.1)
    stmt-in (Continuing p l) rest a = let label = label-in l rest a.1 in ((label.0, a.0), label.1)
    stmt-in (Returning p r) rest a = let value = result-in r rest a.1 in ((value.0, a.0), value.1)
    stmt-in (Yielding p q e) rest a = let value = expr-in In e rest a.1.1 in ((value.0, a.0), value.1)
    stmt-in (Asserting p e v) rest a =
        let goal = expr-in In e (via_before v rest) a.1 in
        let axiom_named = via-in v rest goal.1 in
        ((goal.0, axiom_named.0, a.0), axiom_named.1)

    else-in : (o : ElseForm) (rest : List Token) → TokensAreIn In (else_before o rest) → ArmsAreIn In (else_trees o) × TokensAreIn In rest
    else-in NoElse rest a = (tt, a)
    else-in (ElseIf p q e b o) rest a =
        let condition = expr-in In e (block_before b (else_before o rest)) a.1.1 in
        let body = block-in b (else_before o rest) condition.1 in
        let others = else-in o rest body.1 in
        ((condition.0, body.0, others.0), others.1)
    else-in (Else p b) rest a = block-in b rest a.1

    block-in : (b : BlockForm) (rest : List Token) → TokensAreIn In (block_before b rest) → BlockIsIn In (block_tree b) × TokensAreIn In rest
    block-in (ABlock l items r) rest a = items-in items r rest a.1

    items-in : (items : ItemsForm) (r : Place) (rest : List Token) → TokensAreIn In (items_before items (token kinds.CloseCurly r ∷ rest)) → BlockIsIn In (items_tree items r) × TokensAreIn In rest
    items-in NoItem r rest a = (a.0, a.1)
    items-in (FirstItem s more) r rest a =
        let first = stmt-in s (more_items_before more (token kinds.CloseCurly r ∷ rest)) a in
        let others = more-items-in more r rest first.1 in
        ((first.0, others.0), others.1)

    pub more-items-in : (more : MoreItemsForm) (r : Place) (rest : List Token) → TokensAreIn In (more_items_before more (token kinds.CloseCurly r ∷ rest)) → BlockIsIn In (more_items_tree more r) × TokensAreIn In rest
    more-items-in LastItem r rest a = (a.0, a.1)
    more-items-in (ItemSemicolon p) r rest a = (a.1.0, a.1.1)
    more-items-in (NextItem p s more) r rest a =
        let first = stmt-in s (more_items_before more (token kinds.CloseCurly r ∷ rest)) a.1 in
        let others = more-items-in more r rest first.1 in
        ((first.0, others.0), others.1)
