-- Where the tokens of an expression stand, there stand all its names and places; and so for the parts of expressions.
use Rattle.std.proofs.Common.{List, ◌∷◌}
use Rattle.std.specs.List.{AllByRecursion}
use Rattle.wf_text.specs.declared.place.Place.{Place}
use Rattle.wf_ast.specs.declared.operators.Op.{Op}
use Rattle.wf_parse_grammar.specs.declared.tokens.Kind.TheVariants as kinds
use Rattle.wf_parse_grammar.specs.declared.tokens.Token.{Token}
use Rattle.wf_parse_grammar.specs.Grammar.{token, name_token}
use Rattle.wf_parse_grammar.specs.Grammar.{PathForm, BarePath, ThisPath, ArgsPath, OnForm, OnThis, OnPath, MarkForm, Exclaims, Asks, MarkPart, NoMark, AMark}
use Rattle.wf_parse_grammar.specs.Grammar.{ExprForm, Alone, Pair, Chained, Converted, LinksForm, NoLink, Link, OperandForm, Plain, Negated}
use Rattle.wf_parse_grammar.specs.Grammar.{AtomForm, ANumber, AText, ABaseText, AnOk, ATrue, AFalse, APath, Grouped, Indexed, Sliced, Called, PartForm, NoPart, APart}
use Rattle.wf_parse_grammar.specs.Grammar.{GivensForm, NoGiven, FirstGiven, MoreGivensForm, LastGiven, GivenComma, NextGiven, TypeForm, BaseType, StatusType, SliceType, ArrayType, StructType, BoundsForm, NoBounds, Bounds}
use Rattle.wf_parse_grammar.specs.Grammar.{path_before, on_before, mark_before, mark_part_before, expr_before, links_before, operand_before, atom_before, part_before, givens_before, more_givens_before, type_before, bounds_before}
use Rattle.wf_parse_grammar.specs.Meaning.{path_tree, on_tree, expr_tree, link_trees, operand_tree, atom_tree, part_tree, given_trees, more_given_trees, type_tree, bounds_tree}
use Rattle.wf_read_laws.specs.Places.{PathIsIn, ReceiverIsIn, ExprIsIn, PartIsIn, LinksAreIn, GivenAreIn, TypeIsIn, BoundsAreIn}

-- All these tokens stand in the region.
abbrev pub TokensAreIn : (Place → Type 0) → List Token → Type 0
TokensAreIn In tokens = AllByRecursion (λ t. In t.at) tokens

module _ (In : Place → Type 0) where
  pub path-in : (path : PathForm) (rest : List Token) → TokensAreIn In (path_before path rest) → PathIsIn In (path_tree path) × TokensAreIn In rest
  path-in (BarePath n) rest a = ((a.0, a.0), a.1)
  path-in (ThisPath p d n) rest a = ((a.1.1.0, a.0), a.1.1.1)
  path-in (ArgsPath p d n) rest a = ((a.1.1.0, a.0), a.1.1.1)

  pub on-in : (on : OnForm) (rest : List Token) → TokensAreIn In (on_before on rest) → ReceiverIsIn In (on_tree on) × TokensAreIn In rest
  on-in (OnThis p) rest a = (a.0, a.1)
  on-in (OnPath path) rest a = path-in path rest a

  pub mark-in : (mark : MarkForm) (rest : List Token) → TokensAreIn In (mark_before mark rest) → TokensAreIn In rest
  mark-in (Exclaims p) rest a = a.1
  mark-in (Asks p) rest a = a.1

  pub mark-part-in : (mark : MarkPart) (rest : List Token) → TokensAreIn In (mark_part_before mark rest) → TokensAreIn In rest
  mark-part-in NoMark rest a = a
  mark-part-in (AMark m) rest a = mark-in m rest a

  mutual
    pub expr-in : (e : ExprForm) (rest : List Token) → TokensAreIn In (expr_before e rest) → ExprIsIn In (expr_tree e) × TokensAreIn In rest
    expr-in (Alone f) rest a = operand-in f rest a
    expr-in (Pair f op p g) rest a =
        let first = operand-in f (token (kinds.Binary op) p ∷ operand_before g rest) a in
        let second = operand-in g rest first.1.1 in
        ((first.0, (first.1.0, second.0, tt), first.1.0), second.1)
    expr-in (Chained f op p g ls) rest a =
        let first = operand-in f (token (kinds.Chain op) p ∷ operand_before g (links_before ls op rest)) a in
        let second = operand-in g (links_before ls op rest) first.1.1 in
        let others = links-in ls op rest second.1 in
        ((first.0, (first.1.0, second.0, others.0), first.1.0), others.1)
    expr-in (Converted f p t) rest a =
        let first = operand-in f (token kinds.As p ∷ type_before t rest) a in
        let to = type-in t rest first.1.1 in
        ((first.0, to.0, first.1.0), to.1)

    links-in : (ls : LinksForm) (op : Op) (rest : List Token) → TokensAreIn In (links_before ls op rest) → LinksAreIn In (link_trees ls) × TokensAreIn In rest
    links-in NoLink op rest a = (tt, a)
    links-in (Link p f ls) op rest a =
        let next = operand-in f (links_before ls op rest) a.1 in
        let others = links-in ls op rest next.1 in
        ((a.0, next.0, others.0), others.1)

    operand-in : (f : OperandForm) (rest : List Token) → TokensAreIn In (operand_before f rest) → ExprIsIn In (operand_tree f) × TokensAreIn In rest
    operand-in (Plain f) rest a = atom-in f rest a
    operand-in (Negated p f) rest a = let of = atom-in f rest a.1 in ((of.0, a.0), of.1)

    atom-in : (f : AtomForm) (rest : List Token) → TokensAreIn In (atom_before f rest) → ExprIsIn In (atom_tree f) × TokensAreIn In rest
    atom-in (ANumber n p) rest a = (a.0, a.1)
    atom-in (AText n) rest a = (a.0, a.1)
    atom-in (ABaseText p d n) rest a = ((a.1.1.0, a.0), a.1.1.1)
    atom-in (AnOk p) rest a = (a.0, a.1)
    atom-in (ATrue p) rest a = (a.0, a.1)
    atom-in (AFalse p) rest a = (a.0, a.1)
    atom-in (APath path) rest a = path-in path rest a
    atom-in (Grouped l e r) rest a =
        let inner = expr-in e (token kinds.CloseRound r ∷ rest) a.1 in
        (inner.0, inner.1.1)
    atom-in (Indexed path l e r) rest a =
        let base = path-in path (token kinds.OpenSquare l ∷ expr_before e (token kinds.CloseSquare r ∷ rest)) a in
        let index = expr-in e (token kinds.CloseSquare r ∷ rest) base.1.1 in
        ((base.0, index.0, base.1.0), index.1.1)
    atom-in (Sliced path l i d j r) rest a =
        let base = path-in path (token kinds.OpenSquare l ∷ part_before i (token kinds.Dots d ∷ part_before j (token kinds.CloseSquare r ∷ rest))) a in
        let from = part-in i (token kinds.Dots d ∷ part_before j (token kinds.CloseSquare r ∷ rest)) base.1.1 in
        let to = part-in j (token kinds.CloseSquare r ∷ rest) from.1.1 in
        ((base.0, from.0, to.0, base.1.0), to.1.1)
    atom-in (Called on d n m l gs r) rest a =
        let receiver = on-in on (token kinds.Dot d ∷ name_token n ∷ mark_part_before m (token kinds.OpenRound l ∷ givens_before gs (token kinds.CloseRound r ∷ rest))) a in
        let opened = mark-part-in m (token kinds.OpenRound l ∷ givens_before gs (token kinds.CloseRound r ∷ rest)) receiver.1.1.1 in
        let args = givens-in gs (token kinds.CloseRound r ∷ rest) opened.1 in
        ((receiver.0, receiver.1.1.0, args.0), args.1.1)

    pub part-in : (f : PartForm) (rest : List Token) → TokensAreIn In (part_before f rest) → PartIsIn In (part_tree f) × TokensAreIn In rest
    part-in NoPart rest a = (tt, a)
    part-in (APart e) rest a = expr-in e rest a

    pub givens-in : (gs : GivensForm) (rest : List Token) → TokensAreIn In (givens_before gs rest) → GivenAreIn In (given_trees gs) × TokensAreIn In rest
    givens-in NoGiven rest a = (tt, a)
    givens-in (FirstGiven n c e more) rest a =
        let value = expr-in e (more_givens_before more rest) a.1.1 in
        let others = more-givens-in more rest value.1 in
        ((a.0, value.0, others.0), others.1)

    more-givens-in : (more : MoreGivensForm) (rest : List Token) → TokensAreIn In (more_givens_before more rest) → GivenAreIn In (more_given_trees more) × TokensAreIn In rest
    more-givens-in LastGiven rest a = (tt, a)
    more-givens-in (GivenComma p) rest a = (tt, a.1)
    more-givens-in (NextGiven p n c e more) rest a =
        let value = expr-in e (more_givens_before more rest) a.1.1.1 in
        let others = more-givens-in more rest value.1 in
        ((a.1.0, value.0, others.0), others.1)

    pub type-in : (t : TypeForm) (rest : List Token) → TokensAreIn In (type_before t rest) → TypeIsIn In (type_tree t) × TokensAreIn In rest
    type-in (BaseType p d n b) rest a = let bounds = bounds-in b rest a.1.1.1 in ((a.1.1.0, a.0, bounds.0), bounds.1)
    type-in (StatusType p d w b) rest a = let bounds = bounds-in b rest a.1.1.1 in ((a.0, bounds.0), bounds.1)
    type-in (SliceType p t) rest a = let element = type-in t rest a.1 in ((a.0, element.0), element.1)
    type-in (ArrayType p l e r t) rest a =
        let long = expr-in e (token kinds.CloseSquare r ∷ type_before t rest) a.1.1 in
        let element = type-in t rest long.1.1 in
        ((long.0, a.0, element.0), element.1)
    type-in (StructType n) rest a = (a.0, a.1)

    bounds-in : (b : BoundsForm) (rest : List Token) → TokensAreIn In (bounds_before b rest) → BoundsAreIn In (bounds_tree b) × TokensAreIn In rest
    bounds-in NoBounds rest a = (tt, a)
    bounds-in (Bounds l low d high r) rest a =
        let from = part-in low (token kinds.DotsEquals d ∷ expr_before high (token kinds.CloseSquare r ∷ rest)) a.1 in
        let to = expr-in high (token kinds.CloseSquare r ∷ rest) from.1.1 in
        ((from.0, to.0), to.1.1)
