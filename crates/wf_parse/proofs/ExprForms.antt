-- Of formed tokens the grammar makes formed expressions; and so for the parts of expressions.
use Rattle.std.proofs.Common.{◌≡◌, true, ◌&&◌, List, ◌∷◌, refl}
use Rattle.wf_text.specs.declared.place.Place.{Place}
use Rattle.wf_ast.specs.declared.operators.Op.{Op}
use Rattle.wf_ast.specs.ParsedTree.{ExprTree, link}
use Rattle.wf_ast.specs.OperatorForms.{repeats}
use Rattle.wf_ast.specs.WellFormed.{has_its_operands, formed_expr, formed_part, formed_links, formed_given, formed_type, formed_bounds}
use Rattle.wf_ast.proofs.BoolLemmas.{and-true}
use Rattle.wf_parse_grammar.specs.declared.tokens.Kind.TheVariants as kinds
use Rattle.wf_parse_grammar.specs.declared.tokens.Token.{Token}
use Rattle.wf_parse_grammar.specs.Grammar.{token, name_token}
use Rattle.wf_parse_grammar.specs.Grammar.{PathForm, BarePath, ThisPath, ArgsPath, OnForm, OnThis, OnPath, MarkForm, Exclaims, Asks, MarkPart, NoMark, AMark}
use Rattle.wf_parse_grammar.specs.Grammar.{ExprForm, Alone, Pair, Chained, Converted, LinksForm, NoLink, Link, OperandForm, Plain, Negated}
use Rattle.wf_parse_grammar.specs.Grammar.{AtomForm, ANumber, AText, ABaseText, AnOk, ATrue, AFalse, APath, Grouped, Indexed, Sliced, Called, PartForm, NoPart, APart}
use Rattle.wf_parse_grammar.specs.Grammar.{GivensForm, NoGiven, FirstGiven, MoreGivensForm, LastGiven, GivenComma, NextGiven, TypeForm, BaseType, StatusType, SliceType, ArrayType, StructType, BoundsForm, NoBounds, Bounds}
use Rattle.wf_parse_grammar.specs.Grammar.{path_before, on_before, mark_before, mark_part_before, expr_before, links_before, operand_before, atom_before, part_before, givens_before, more_givens_before, type_before, bounds_before}
use Rattle.wf_parse_grammar.specs.Meaning.{expr_tree, link_trees, operand_tree, atom_tree, part_tree, given_trees, more_given_trees, type_tree, bounds_tree}
use Rattle.wf_parse.specs.TokenForms.{AreFormed}

pub path-passed : (path : PathForm) (rest : List Token) → AreFormed (path_before path rest) → AreFormed rest
path-passed (BarePath n) rest a = a.1
path-passed (ThisPath p d n) rest a = a.1.1.1
path-passed (ArgsPath p d n) rest a = a.1.1.1

pub on-passed : (on : OnForm) (rest : List Token) → AreFormed (on_before on rest) → AreFormed rest
on-passed (OnThis p) rest a = a.1
on-passed (OnPath path) rest a = path-passed path rest a

pub mark-passed : (mark : MarkForm) (rest : List Token) → AreFormed (mark_before mark rest) → AreFormed rest
mark-passed (Exclaims p) rest a = a.1
mark-passed (Asks p) rest a = a.1

pub mark-part-passed : (mark : MarkPart) (rest : List Token) → AreFormed (mark_part_before mark rest) → AreFormed rest
mark-part-passed NoMark rest a = a
mark-part-passed (AMark m) rest a = mark-passed m rest a

-- A second operand is always there, and a third only after an operator of chains.
operands-formed : (op : Op) (sign : Place) (second : ExprTree) (ls : LinksForm) → repeats op ≡ true → has_its_operands op (link sign second (link_trees ls)) ≡ true
operands-formed op sign second NoLink h = refl
operands-formed op sign second (Link p f ls) h = h

mutual
  pub expr-formed : (e : ExprForm) (rest : List Token) → AreFormed (expr_before e rest) → (formed_expr (expr_tree e) ≡ true) × AreFormed rest
  expr-formed (Alone f) rest a = operand-formed f rest a
  expr-formed (Pair f op p g) rest a =
      let first = operand-formed f (token (kinds.Binary op) p ∷ operand_before g rest) a in
      let second = operand-formed g rest first.1.1 in
      let operands = and-true (formed_expr (operand_tree f)) (formed_expr (operand_tree g) && true) first.0 (and-true (formed_expr (operand_tree g)) true second.0 refl) in
      (operands, second.1)
  expr-formed (Chained f op p g ls) rest a =
      let first = operand-formed f (token (kinds.Chain op) p ∷ operand_before g (links_before ls op rest)) a in
      let second = operand-formed g (links_before ls op rest) first.1.1 in
      let others = links-formed ls op rest second.1 in
      let behind = and-true (formed_expr (operand_tree g)) (formed_links (link_trees ls)) second.0 others.0 in
      let operands = and-true (formed_expr (operand_tree f)) (formed_expr (operand_tree g) && formed_links (link_trees ls)) first.0 behind in
      let enough = operands-formed op p (operand_tree g) ls first.1.0 in
      (and-true (has_its_operands op (link p (operand_tree g) (link_trees ls))) (formed_expr (operand_tree f) && (formed_expr (operand_tree g) && formed_links (link_trees ls))) enough operands, others.1)
  expr-formed (Converted f p t) rest a =
      let first = operand-formed f (token kinds.As p ∷ type_before t rest) a in
      let to = type-formed t rest first.1.1 in
      (and-true (formed_expr (operand_tree f)) (formed_type (type_tree t)) first.0 to.0, to.1)

  links-formed : (ls : LinksForm) (op : Op) (rest : List Token) → AreFormed (links_before ls op rest) → (formed_links (link_trees ls) ≡ true) × AreFormed rest
  links-formed NoLink op rest a = (refl, a)
  links-formed (Link p f ls) op rest a =
      let next = operand-formed f (links_before ls op rest) a.1 in
      let others = links-formed ls op rest next.1 in
      (and-true (formed_expr (operand_tree f)) (formed_links (link_trees ls)) next.0 others.0, others.1)

  operand-formed : (f : OperandForm) (rest : List Token) → AreFormed (operand_before f rest) → (formed_expr (operand_tree f) ≡ true) × AreFormed rest
  operand-formed (Plain f) rest a = atom-formed f rest a
  operand-formed (Negated p f) rest a = atom-formed f rest a.1

  atom-formed : (f : AtomForm) (rest : List Token) → AreFormed (atom_before f rest) → (formed_expr (atom_tree f) ≡ true) × AreFormed rest
  atom-formed (ANumber n p) rest a = (a.0, a.1)
  atom-formed (AText n) rest a = (refl, a.1)
  atom-formed (ABaseText p d n) rest a = (refl, a.1.1.1)
  atom-formed (AnOk p) rest a = (refl, a.1)
  atom-formed (ATrue p) rest a = (refl, a.1)
  atom-formed (AFalse p) rest a = (refl, a.1)
  atom-formed (APath path) rest a = (refl, path-passed path rest a)
  atom-formed (Grouped l e r) rest a =
      let inner = expr-formed e (token kinds.CloseRound r ∷ rest) a.1 in
      (inner.0, inner.1.1)
  atom-formed (Indexed path l e r) rest a =
      let opened = path-passed path (token kinds.OpenSquare l ∷ expr_before e (token kinds.CloseSquare r ∷ rest)) a in
      let index = expr-formed e (token kinds.CloseSquare r ∷ rest) opened.1 in
      (index.0, index.1.1)
  atom-formed (Sliced path l i d j r) rest a =
      let opened = path-passed path (token kinds.OpenSquare l ∷ part_before i (token kinds.Dots d ∷ part_before j (token kinds.CloseSquare r ∷ rest))) a in
      let from = part-formed i (token kinds.Dots d ∷ part_before j (token kinds.CloseSquare r ∷ rest)) opened.1 in
      let to = part-formed j (token kinds.CloseSquare r ∷ rest) from.1.1 in
      (and-true (formed_part (part_tree i)) (formed_part (part_tree j)) from.0 to.0, to.1.1)
  atom-formed (Called on d n m l gs r) rest a =
      let named = on-passed on (token kinds.Dot d ∷ name_token n ∷ mark_part_before m (token kinds.OpenRound l ∷ givens_before gs (token kinds.CloseRound r ∷ rest))) a in
      let opened = mark-part-passed m (token kinds.OpenRound l ∷ givens_before gs (token kinds.CloseRound r ∷ rest)) named.1.1 in
      let args = givens-formed gs (token kinds.CloseRound r ∷ rest) opened.1 in
      (args.0, args.1.1)

  part-formed : (f : PartForm) (rest : List Token) → AreFormed (part_before f rest) → (formed_part (part_tree f) ≡ true) × AreFormed rest
  part-formed NoPart rest a = (refl, a)
  part-formed (APart e) rest a = expr-formed e rest a

  pub givens-formed : (gs : GivensForm) (rest : List Token) → AreFormed (givens_before gs rest) → (formed_given (given_trees gs) ≡ true) × AreFormed rest
  givens-formed NoGiven rest a = (refl, a)
  givens-formed (FirstGiven n c e more) rest a =
      let value = expr-formed e (more_givens_before more rest) a.1.1 in
      let others = more-givens-formed more rest value.1 in
      (and-true (formed_expr (expr_tree e)) (formed_given (more_given_trees more)) value.0 others.0, others.1)

  more-givens-formed : (more : MoreGivensForm) (rest : List Token) → AreFormed (more_givens_before more rest) → (formed_given (more_given_trees more) ≡ true) × AreFormed rest
  more-givens-formed LastGiven rest a = (refl, a)
  more-givens-formed (GivenComma p) rest a = (refl, a.1)
  more-givens-formed (NextGiven p n c e more) rest a =
      let value = expr-formed e (more_givens_before more rest) a.1.1.1 in
      let others = more-givens-formed more rest value.1 in
      (and-true (formed_expr (expr_tree e)) (formed_given (more_given_trees more)) value.0 others.0, others.1)

  pub type-formed : (t : TypeForm) (rest : List Token) → AreFormed (type_before t rest) → (formed_type (type_tree t) ≡ true) × AreFormed rest
  type-formed (BaseType p d n b) rest a = bounds-formed b rest a.1.1.1
  type-formed (StatusType p d w b) rest a = bounds-formed b rest a.1.1.1
  type-formed (SliceType p t) rest a = type-formed t rest a.1
  type-formed (ArrayType p l e r t) rest a =
      let long = expr-formed e (token kinds.CloseSquare r ∷ type_before t rest) a.1.1 in
      let element = type-formed t rest long.1.1 in
      (and-true (formed_expr (expr_tree e)) (formed_type (type_tree t)) long.0 element.0, element.1)
  type-formed (StructType n) rest a = (refl, a.1)

  bounds-formed : (b : BoundsForm) (rest : List Token) → AreFormed (bounds_before b rest) → (formed_bounds (bounds_tree b) ≡ true) × AreFormed rest
  bounds-formed NoBounds rest a = (refl, a)
  bounds-formed (Bounds l low d high r) rest a =
      let from = part-formed low (token kinds.DotsEquals d ∷ expr_before high (token kinds.CloseSquare r ∷ rest)) a.1 in
      let to = expr-formed high (token kinds.CloseSquare r ∷ rest) from.1.1 in
      (and-true (formed_part (part_tree low)) (formed_expr (expr_tree high)) from.0 to.0, to.1.1)
