-- An expression opens no more brackets than its tokens.
use Rattle.std.proofs.Common.{◌≡◌, ℕ, ◌-◌, ◌≤◌, Bool, true, false, ◌&&◌, List, ◌∷◌, refl, arith}
use Rattle.std.specs.Prelude.{nat_le}
use Rattle.wf_ast.specs.ParsedTree as tree
use Rattle.wf_ast.specs.ParsedTree.{ExprTree, PartTree, LinkTrees, GivenTrees}
use Rattle.wf_ast.proofs.BoolLemmas.{both, and-true}
use Rattle.wf_parse_grammar.specs.declared.tokens.Kind.TheVariants as kinds
use Rattle.wf_parse_grammar.specs.declared.tokens.Token.{Token}
use Rattle.wf_ast.specs.declared.operators.Op.{Op}
use Rattle.wf_parse_grammar.specs.Grammar.{token, name_token}
use Rattle.wf_parse_grammar.specs.Grammar.{ExprForm, Alone, Pair, Chained, Converted, LinksForm, NoLink, Link, OperandForm, Plain, Negated}
use Rattle.wf_parse_grammar.specs.Grammar.{AtomForm, ANumber, AText, ABaseText, AnOk, ATrue, AFalse, APath, Grouped, Indexed, Sliced, Called, PartForm, NoPart, APart}
use Rattle.wf_parse_grammar.specs.Grammar.{GivensForm, NoGiven, FirstGiven, MoreGivensForm, LastGiven, GivenComma, NextGiven, TypeForm, BaseType, StatusType, SliceType, ArrayType, StructType, BoundsForm, NoBounds, Bounds}
use Rattle.wf_parse_grammar.specs.Grammar.{mark_part_before, expr_before, links_before, operand_before, atom_before, part_before, givens_before, more_givens_before, type_before, bounds_before}
use Rattle.wf_parse_grammar.specs.Meaning.{expr_tree, link_trees, operand_tree, atom_tree, part_tree, given_trees, more_given_trees}
use Rattle.wf_lower_depth_laws.specs.WrittenDepth.{Spot, alone, beside_sign, behind_not, boxes_sign, boxes_not, may_open, room_in, expr_opens, part_opens, links_open, given_opens}
use Rattle.wf_lower_depth_laws.proofs.Room.{Fits, shut, one_left, has_one, path_passed, on_passed, mark_part_passed}

-- ---- with more room

may_more : (boxed : Bool) (r n : ℕ) → r ≤ n → may_open boxed r ≡ true → may_open boxed n ≡ true
may_more true r n l h = let k = has_one r h in one_left n (omega (arith, l, k))
may_more false r n l h = refl

room_more : (boxed : Bool) (r n : ℕ) → r ≤ n → room_in boxed r ≤ room_in boxed n
room_more true r n l = omega (arith, l)
room_more false r n l = l

mutual
  expr_more : (spot : Spot) (r n : ℕ) (e : ExprTree) → r ≤ n → expr_opens spot r e ≡ true → expr_opens spot n e ≡ true
  expr_more spot r n (tree.number value at) l h = refl
  expr_more spot r n (tree.own_status text) l h = refl
  expr_more spot r n (tree.base_status text at) l h = refl
  expr_more spot r n (tree.fine at) l h = refl
  expr_more spot r n (tree.truth value at) l h = refl
  expr_more spot r n (tree.path path) l h = refl
  expr_more spot r n (tree.index base place at) l h =
      let q = both (nat_le 1 r) (expr_opens alone (r - 1) place) h in
      and-true (nat_le 1 n) (expr_opens alone (n - 1) place) (may_more true r n l q.0) (expr_more alone (r - 1) (n - 1) place (room_more true r n l) q.1)
  expr_more spot r n (tree.slice base from to at) l h =
      let q = both (nat_le 1 r) (part_opens (r - 1) from && part_opens (r - 1) to) h in
      let ends = both (part_opens (r - 1) from) (part_opens (r - 1) to) q.1 in
      and-true (nat_le 1 n) (part_opens (n - 1) from && part_opens (n - 1) to) (may_more true r n l q.0)
      (and-true (part_opens (n - 1) from) (part_opens (n - 1) to) (part_more (r - 1) (n - 1) from (room_more true r n l) ends.0) (part_more (r - 1) (n - 1) to (room_more true r n l) ends.1))
  expr_more spot r n (tree.answer (tree.call on name mark given)) l h =
      let q = both (nat_le 1 r) (given_opens (r - 1) given) h in
      and-true (nat_le 1 n) (given_opens (n - 1) given) (may_more true r n l q.0) (given_more (r - 1) (n - 1) given (room_more true r n l) q.1)
  expr_more spot r n (tree.chain op first links at) l h =
      let b = boxes_sign spot in
      let q = both (may_open b r) (expr_opens beside_sign (room_in b r) first && links_open (room_in b r) links) h in
      let operands = both (expr_opens beside_sign (room_in b r) first) (links_open (room_in b r) links) q.1 in
      and-true (may_open b n) (expr_opens beside_sign (room_in b n) first && links_open (room_in b n) links) (may_more b r n l q.0)
      (and-true (expr_opens beside_sign (room_in b n) first) (links_open (room_in b n) links)
      (expr_more beside_sign (room_in b r) (room_in b n) first (room_more b r n l) operands.0) (links_more (room_in b r) (room_in b n) links (room_more b r n l) operands.1))
  expr_more spot r n (tree.convert of to at) l h =
      let b = boxes_sign spot in
      let q = both (may_open b r) (expr_opens beside_sign (room_in b r) of) h in
      and-true (may_open b n) (expr_opens beside_sign (room_in b n) of) (may_more b r n l q.0) (expr_more beside_sign (room_in b r) (room_in b n) of (room_more b r n l) q.1)
  expr_more spot r n (tree.negation of at) l h =
      let b = boxes_not spot in
      let q = both (may_open b r) (expr_opens behind_not (room_in b r) of) h in
      and-true (may_open b n) (expr_opens behind_not (room_in b n) of) (may_more b r n l q.0) (expr_more behind_not (room_in b r) (room_in b n) of (room_more b r n l) q.1)

  part_more : (r n : ℕ) (part : PartTree) → r ≤ n → part_opens r part ≡ true → part_opens n part ≡ true
  part_more r n tree.absent l h = refl
  part_more r n (tree.present part) l h = expr_more alone r n part l h

  links_more : (r n : ℕ) (links : LinkTrees) → r ≤ n → links_open r links ≡ true → links_open n links ≡ true
  links_more r n tree.no_link l h = refl
  links_more r n (tree.link sign operand others) l h =
      let q = both (expr_opens beside_sign r operand) (links_open r others) h in
      and-true (expr_opens beside_sign n operand) (links_open n others) (expr_more beside_sign r n operand l q.0) (links_more r n others l q.1)

  given_more : (r n : ℕ) (given : GivenTrees) → r ≤ n → given_opens r given ≡ true → given_opens n given ≡ true
  given_more r n tree.no_given l h = refl
  given_more r n (tree.more_given name value others) l h =
      let q = both (expr_opens alone r value) (given_opens r others) h in
      and-true (expr_opens alone n value) (given_opens n others) (expr_more alone r n value l q.0) (given_more r n others l q.1)

-- ---- in brackets

-- What stands in brackets may stand anywhere.
grouped : (spot : Spot) (r : ℕ) (e : ExprTree) → 1 ≤ r → expr_opens alone (r - 1) e ≡ true → expr_opens spot r e ≡ true
grouped alone r e l h = expr_more alone (r - 1) r e (omega (arith, l)) h
grouped beside_sign r (tree.chain op first links at) l h = and-true (nat_le 1 r) (expr_opens beside_sign (r - 1) first && links_open (r - 1) links) (one_left r l) h
grouped beside_sign r (tree.convert of to at) l h = and-true (nat_le 1 r) (expr_opens beside_sign (r - 1) of) (one_left r l) h
grouped beside_sign r (tree.negation of at) l h = expr_more behind_not (r - 1) r of (omega (arith, l)) h
grouped beside_sign r (tree.number value at) l h = refl
grouped beside_sign r (tree.own_status text) l h = refl
grouped beside_sign r (tree.base_status text at) l h = refl
grouped beside_sign r (tree.fine at) l h = refl
grouped beside_sign r (tree.truth value at) l h = refl
grouped beside_sign r (tree.path path) l h = refl
grouped beside_sign r (tree.index base place at) l h = expr_more alone (r - 1) r (tree.index base place at) (omega (arith, l)) h
grouped beside_sign r (tree.slice base from to at) l h = expr_more alone (r - 1) r (tree.slice base from to at) (omega (arith, l)) h
grouped beside_sign r (tree.answer (tree.call on name mark given)) l h = expr_more alone (r - 1) r (tree.answer (tree.call on name mark given)) (omega (arith, l)) h
grouped behind_not r (tree.chain op first links at) l h = and-true (nat_le 1 r) (expr_opens beside_sign (r - 1) first && links_open (r - 1) links) (one_left r l) h
grouped behind_not r (tree.convert of to at) l h = and-true (nat_le 1 r) (expr_opens beside_sign (r - 1) of) (one_left r l) h
grouped behind_not r (tree.negation of at) l h = and-true (nat_le 1 r) (expr_opens behind_not (r - 1) of) (one_left r l) h
grouped behind_not r (tree.number value at) l h = refl
grouped behind_not r (tree.own_status text) l h = refl
grouped behind_not r (tree.base_status text at) l h = refl
grouped behind_not r (tree.fine at) l h = refl
grouped behind_not r (tree.truth value at) l h = refl
grouped behind_not r (tree.path path) l h = refl
grouped behind_not r (tree.index base place at) l h = expr_more alone (r - 1) r (tree.index base place at) (omega (arith, l)) h
grouped behind_not r (tree.slice base from to at) l h = expr_more alone (r - 1) r (tree.slice base from to at) (omega (arith, l)) h
grouped behind_not r (tree.answer (tree.call on name mark given)) l h = expr_more alone (r - 1) r (tree.answer (tree.call on name mark given)) (omega (arith, l)) h

-- ---- the forms of the grammar

mutual
  pub expr_few : (r : ℕ) (e : ExprForm) (rest : List Token) → Fits r (expr_before e rest) → (expr_opens alone r (expr_tree e) ≡ true) × Fits r rest
  expr_few r (Alone f) rest a =
      let it = operand_few r f rest a in
      (it.0, it.2)
  expr_few r (Pair f op p g) rest a =
      let first = operand_few r f (token (kinds.Binary op) p ∷ operand_before g rest) a in
      let second = operand_few r g rest first.2.1 in
      let behind = and-true (expr_opens beside_sign r (operand_tree g)) true second.1 refl in
      (and-true (expr_opens beside_sign r (operand_tree f)) (expr_opens beside_sign r (operand_tree g) && true) first.1 behind, second.2)
  expr_few r (Chained f op p g ls) rest a =
      let first = operand_few r f (token (kinds.Chain op) p ∷ operand_before g (links_before ls op rest)) a in
      let second = operand_few r g (links_before ls op rest) first.2.1 in
      let others = links_few r ls op rest second.2 in
      let behind = and-true (expr_opens beside_sign r (operand_tree g)) (links_open r (link_trees ls)) second.1 others.0 in
      (and-true (expr_opens beside_sign r (operand_tree f)) (expr_opens beside_sign r (operand_tree g) && links_open r (link_trees ls)) first.1 behind, others.1)
  expr_few r (Converted f p t) rest a =
      let first = operand_few r f (token kinds.As p ∷ type_before t rest) a in
      (first.1, type_passed r t rest first.2.1)

  links_few : (r : ℕ) (ls : LinksForm) (op : Op) (rest : List Token) → Fits r (links_before ls op rest) → (links_open r (link_trees ls) ≡ true) × Fits r rest
  links_few r NoLink op rest a = (refl, a)
  links_few r (Link p f ls) op rest a =
      let next = operand_few r f (links_before ls op rest) a.1 in
      let others = links_few r ls op rest next.2 in
      (and-true (expr_opens beside_sign r (operand_tree f)) (links_open r (link_trees ls)) next.1 others.0, others.1)

  -- An operand may stand by itself, or beside a sign.
  operand_few : (r : ℕ) (f : OperandForm) (rest : List Token) → Fits r (operand_before f rest)
      → (expr_opens alone r (operand_tree f) ≡ true) × (expr_opens beside_sign r (operand_tree f) ≡ true) × Fits r rest
  operand_few r (Plain f) rest a =
      let it = atom_few r f rest a in
      (it.0 alone, it.0 beside_sign, it.1)
  operand_few r (Negated p f) rest a =
      let it = atom_few r f rest a.1 in
      (it.0 behind_not, it.0 behind_not, it.1)

  -- And an atom anywhere.
  atom_few : (r : ℕ) (f : AtomForm) (rest : List Token) → Fits r (atom_before f rest) → ((spot : Spot) → expr_opens spot r (atom_tree f) ≡ true) × Fits r rest
  atom_few r (ANumber n p) rest a = (λ spot. refl, a.1)
  atom_few r (AText n) rest a = (λ spot. refl, a.1)
  atom_few r (ABaseText p d n) rest a = (λ spot. refl, a.1.1.1)
  atom_few r (AnOk p) rest a = (λ spot. refl, a.1)
  atom_few r (ATrue p) rest a = (λ spot. refl, a.1)
  atom_few r (AFalse p) rest a = (λ spot. refl, a.1)
  atom_few r (APath path) rest a = (λ spot. refl, path_passed r path rest a)
  atom_few r (Grouped l e s) rest a =
      let inner = expr_few (r - 1) e (token kinds.CloseRound s ∷ rest) a.1 in
      (λ spot. grouped spot r (expr_tree e) (a.0 refl) inner.0, shut r rest (a.0 refl) inner.1.1)
  atom_few r (Indexed path l e s) rest a =
      let open_at = path_passed r path (token kinds.OpenSquare l ∷ expr_before e (token kinds.CloseSquare s ∷ rest)) a in
      let index = expr_few (r - 1) e (token kinds.CloseSquare s ∷ rest) open_at.1 in
      (λ spot. and-true (nat_le 1 r) (expr_opens alone (r - 1) (expr_tree e)) (one_left r (open_at.0 refl)) index.0, shut r rest (open_at.0 refl) index.1.1)
  atom_few r (Sliced path l i d j s) rest a =
      let open_at = path_passed r path (token kinds.OpenSquare l ∷ part_before i (token kinds.Dots d ∷ part_before j (token kinds.CloseSquare s ∷ rest))) a in
      let from = part_few (r - 1) i (token kinds.Dots d ∷ part_before j (token kinds.CloseSquare s ∷ rest)) open_at.1 in
      let to = part_few (r - 1) j (token kinds.CloseSquare s ∷ rest) from.1.1 in
      let ends = and-true (part_opens (r - 1) (part_tree i)) (part_opens (r - 1) (part_tree j)) from.0 to.0 in
      (λ spot. and-true (nat_le 1 r) (part_opens (r - 1) (part_tree i) && part_opens (r - 1) (part_tree j)) (one_left r (open_at.0 refl)) ends, shut r rest (open_at.0 refl) to.1.1)
  atom_few r (Called on d n m l gs s) rest a =
      let named = on_passed r on (token kinds.Dot d ∷ name_token n ∷ mark_part_before m (token kinds.OpenRound l ∷ givens_before gs (token kinds.CloseRound s ∷ rest))) a in
      let open_at = mark_part_passed r m (token kinds.OpenRound l ∷ givens_before gs (token kinds.CloseRound s ∷ rest)) named.1.1 in
      let args = givens_few (r - 1) gs (token kinds.CloseRound s ∷ rest) open_at.1 in
      (λ spot. and-true (nat_le 1 r) (given_opens (r - 1) (given_trees gs)) (one_left r (open_at.0 refl)) args.0, shut r rest (open_at.0 refl) args.1.1)

  part_few : (r : ℕ) (f : PartForm) (rest : List Token) → Fits r (part_before f rest) → (part_opens r (part_tree f) ≡ true) × Fits r rest
  part_few r NoPart rest a = (refl, a)
  part_few r (APart e) rest a = expr_few r e rest a

  pub givens_few : (r : ℕ) (gs : GivensForm) (rest : List Token) → Fits r (givens_before gs rest) → (given_opens r (given_trees gs) ≡ true) × Fits r rest
  givens_few r NoGiven rest a = (refl, a)
  givens_few r (FirstGiven n c e more) rest a =
      let value = expr_few r e (more_givens_before more rest) a.1.1 in
      let others = more_givens_few r more rest value.1 in
      (and-true (expr_opens alone r (expr_tree e)) (given_opens r (more_given_trees more)) value.0 others.0, others.1)

  more_givens_few : (r : ℕ) (more : MoreGivensForm) (rest : List Token) → Fits r (more_givens_before more rest) → (given_opens r (more_given_trees more) ≡ true) × Fits r rest
  more_givens_few r LastGiven rest a = (refl, a)
  more_givens_few r (GivenComma p) rest a = (refl, a.1)
  more_givens_few r (NextGiven p n c e more) rest a =
      let value = expr_few r e (more_givens_before more rest) a.1.1.1 in
      let others = more_givens_few r more rest value.1 in
      (and-true (expr_opens alone r (expr_tree e)) (given_opens r (more_given_trees more)) value.0 others.0, others.1)

  pub type_passed : (r : ℕ) (t : TypeForm) (rest : List Token) → Fits r (type_before t rest) → Fits r rest
  type_passed r (BaseType p d n b) rest a = bounds_passed r b rest a.1.1.1
  type_passed r (StatusType p d w b) rest a = bounds_passed r b rest a.1.1.1
  type_passed r (SliceType p t) rest a = type_passed r t rest a.1
  type_passed r (ArrayType p l e s t) rest a =
      let size = expr_few (r - 1) e (token kinds.CloseSquare s ∷ type_before t rest) a.1.1 in
      type_passed r t rest (shut r (type_before t rest) (a.1.0 refl) size.1.1)
  type_passed r (StructType n) rest a = a.1

  bounds_passed : (r : ℕ) (b : BoundsForm) (rest : List Token) → Fits r (bounds_before b rest) → Fits r rest
  bounds_passed r NoBounds rest a = a
  bounds_passed r (Bounds l low d high s) rest a =
      let from = part_few (r - 1) low (token kinds.DotsEquals d ∷ expr_before high (token kinds.CloseSquare s ∷ rest)) a.1 in
      let to = expr_few (r - 1) high (token kinds.CloseSquare s ∷ rest) from.1.1 in
      shut r rest (a.0 refl) to.1.1
