-- Every expression and every type is built to its tree: the machine goes over its tokens and puts the tree on top of
-- the values.
use Rattle.std.proofs.Common.{◌≡◌, ◌∙◌, ap, sym, true, List, [], ◌∷◌, ◌++◌, refl, if◌then◌else◌, append_assoc, append-nil}
use Rattle.wf_text.specs.declared.place.Place.{Place}
use Rattle.wf_ast.specs.declared.operators.Op.{Op}
use Rattle.wf_ast.specs.declared.parsed.Name.{Name}
use Rattle.wf_ast.specs.declared.parsed.Path.{Path}
use Rattle.wf_ast.specs.ParsedTree as tree
use Rattle.wf_ast.specs.ParsedTree.{ExprTree, PartTree, TypeTree, DeclTree}
use Rattle.wf_ast.specs.Operators.{same_op, op_number}
use Rattle.wf_parse_grammar.specs.declared.tokens.Kind.TheVariants as kinds
use Rattle.wf_parse_grammar.specs.declared.tokens.Token.{Token}
use Rattle.wf_parse_grammar.specs.declared.symbols.Sym.TheVariants as syms
use Rattle.wf_parse_grammar.specs.declared.symbols.Action.TheVariants as does
use Rattle.wf_parse_grammar.specs.declared.symbols.Want.{Want}
use Rattle.wf_parse_grammar.specs.declared.symbols.Want.TheVariants.{Read, Make}
use Rattle.wf_parse_grammar.specs.Grammar.{token, BarePath, ThisPath, ArgsPath, OnForm, OnThis, OnPath, Exclaims, Asks, MarkPart, NoMark, AMark}
use Rattle.wf_parse_grammar.specs.Grammar.{ExprForm, Alone, Pair, Chained, Converted, LinksForm, NoLink, Link, OperandForm, Plain, Negated}
use Rattle.wf_parse_grammar.specs.Grammar.{AtomForm, ANumber, AText, ABaseText, AnOk, ATrue, AFalse, APath, Grouped, Indexed, Sliced, Called, NoPart, APart}
use Rattle.wf_parse_grammar.specs.Grammar.{GivensForm, NoGiven, FirstGiven, MoreGivensForm, LastGiven, GivenComma, NextGiven, TypeForm, BaseType, StatusType, SliceType, ArrayType, StructType, BoundsForm, NoBounds, Bounds}
use Rattle.wf_parse_grammar.specs.Grammar.{expr_before, links_before, operand_before, atom_before, givens_before, more_givens_before, type_before, bounds_before}
use Rattle.wf_parse_grammar.specs.Meaning as means
use Rattle.wf_parse_grammar.specs.Meaning.{path_tree, on_tree, mark_part_tree, expr_tree, operand_tree, atom_tree, type_tree, bounds_tree}
use Rattle.wf_parse_grammar.specs.Building.{Take, wrong_mix, skipped}
use Rattle.wf_parse_grammar.specs.Values.{Val, name, place, mark, path, receiver, expr, part, chain, givens, prefixes, core, bounds, type, LinkVal, GivenVal, PrefixVal, slice_prefix, array_prefix, base_core, status_core, Made, link_trees, given_trees, prefixed, all_prefixed}
use Rattle.wf_parse_grammar.proofs.OpLemmas.{eq-self}
use Rattle.wf_parse_grammar.proofs.Forward.{ends_expr, ends_operand, begins_atom, begins_expr, atom-starts, operand-starts, expr-starts}
use Rattle.wf_parse_grammar.proofs.Makes.{go, makes}
use Rattle.wf_parse_grammar.proofs.MakesFirst.{made, Follows, left_out, passes-path_atom, passes-this_atom, passes-bounds, passes-rest, passes-end, passes-links, ends-both, swapped, SameAt, operand-atom, expr-operand, cut-expr, cut_end-expr, low-expr}

-- The values of a list of the grammar.
abbrev pub link_vals : LinksForm → List LinkVal
link_vals NoLink = []
link_vals (Link p a ls) = record { sign = p; operand = operand_tree a } ∷ link_vals ls

pub link-trees : (ls : LinksForm) → link_trees (link_vals ls) ≡ means.link_trees ls
link-trees NoLink = refl
link-trees (Link p a ls) = ap (tree.link p (operand_tree a)) (link-trees ls)

abbrev pub more_given_vals : MoreGivensForm → List GivenVal
more_given_vals LastGiven = []
more_given_vals (GivenComma p) = []
more_given_vals (NextGiven p n c e more) = record { name = n; value = expr_tree e } ∷ more_given_vals more

abbrev pub given_vals : GivensForm → List GivenVal
given_vals NoGiven = []
given_vals (FirstGiven n c e more) = record { name = n; value = expr_tree e } ∷ more_given_vals more

more_given-trees : (more : MoreGivensForm) → given_trees (more_given_vals more) ≡ means.more_given_trees more
more_given-trees LastGiven = refl
more_given-trees (GivenComma p) = refl
more_given-trees (NextGiven p n c e more) = ap (tree.more_given n (expr_tree e)) (more_given-trees more)

pub given-trees : (gs : GivensForm) → given_trees (given_vals gs) ≡ means.given_trees gs
given-trees NoGiven = refl
given-trees (FirstGiven n c e more) = ap (tree.more_given n (expr_tree e)) (more_given-trees more)

-- One prefix more before a type.
prefixed-more : (ps : List PrefixVal) (p : PrefixVal) (t : TypeTree) → all_prefixed (ps ++ p ∷ []) t ≡ all_prefixed ps (prefixed p t)
prefixed-more [] p t = refl
prefixed-more (q ∷ ps) p t = ap (prefixed q) (prefixed-more ps p t)

-- What follows a form, where the form may be without tokens.
pub links-follow : (ls : LinksForm) (op : Op) (rest : List Token) → Follows ends_operand rest → Follows ends_operand (links_before ls op rest)
links-follow NoLink op rest h = h
links-follow (Link p a ls) op rest h = refl

more_givens-follow : (more : MoreGivensForm) (r : Place) (rest : List Token) → Follows ends_expr (more_givens_before more (token kinds.CloseRound r ∷ rest))
more_givens-follow LastGiven r rest = refl
more_givens-follow (GivenComma p) r rest = refl
more_givens-follow (NextGiven p n c e more) r rest = refl

-- What is shown of an expression, for the steps that use it.
abbrev pub Builds : ExprForm → Type 0
Builds e = (rest : List Token) (k : List Want) (vs : List Val) (d : List DeclTree) → Follows ends_expr rest
    → makes (Read syms.Expr ∷ k) (expr_before e rest) (made vs d) ≡ makes k rest (made (expr (expr_tree e) ∷ vs) d)

-- another symbol that begins like an expression
pub first-expr : (e : ExprForm) (rest : List Token) (j k : List Want) (m : Made) → SameAt begins_expr j k → makes j (expr_before e rest) m ≡ makes k (expr_before e rest) m
first-expr e rest j k m f = swapped begins_expr j k f (expr_before e rest) m (expr-starts e rest)

index-built : (e : ExprForm) → Builds e → (x : Path) (l r : Place) (rest : List Token) (k : List Want) (vs : List Val) (d : List DeclTree)
    → makes (Read syms.Cut ∷ k) (expr_before e (token kinds.CloseSquare r ∷ rest)) (made (place l ∷ path x ∷ vs) d) ≡ makes k rest (made (expr (tree.index x (expr_tree e) l) ∷ vs) d)
index-built e b x l r rest k vs d =
    first-expr e _ (Read syms.Cut ∷ k) (Read syms.Expr ∷ Read syms.CutTail ∷ k) _ (cut-expr k)
    ∙ b (token kinds.CloseSquare r ∷ rest) (Read syms.CutTail ∷ k) (place l ∷ path x ∷ vs) d refl

start-built : (e : ExprForm) → Builds e → (t : Place) (rest : List Token) (k : List Want) (vs : List Val) (d : List DeclTree)
    → makes (Read syms.Cut ∷ k) (expr_before e (token kinds.Dots t ∷ rest)) (made vs d) ≡ makes (Read syms.CutEnd ∷ k) rest (made (part (tree.present (expr_tree e)) ∷ vs) d)
start-built e b t rest k vs d =
    first-expr e _ (Read syms.Cut ∷ k) (Read syms.Expr ∷ Read syms.CutTail ∷ k) _ (cut-expr k)
    ∙ b (token kinds.Dots t ∷ rest) (Read syms.CutTail ∷ k) vs d refl

end-built : (e : ExprForm) → Builds e → (i : PartTree) (x : Path) (l r : Place) (rest : List Token) (k : List Want) (vs : List Val) (d : List DeclTree)
    → makes (Read syms.CutEnd ∷ k) (expr_before e (token kinds.CloseSquare r ∷ rest)) (made (part i ∷ place l ∷ path x ∷ vs) d)
    ≡ makes k rest (made (expr (tree.slice x i (tree.present (expr_tree e)) l) ∷ vs) d)
end-built e b i x l r rest k vs d =
    first-expr e _ (Read syms.CutEnd ∷ k) (Read syms.Expr ∷ Make does.SomePart ∷ Read syms.RightSquare ∷ Make does.SliceExpr ∷ k) _ (cut_end-expr k)
    ∙ b (token kinds.CloseSquare r ∷ rest) (Make does.SomePart ∷ Read syms.RightSquare ∷ Make does.SliceExpr ∷ k) (part i ∷ place l ∷ path x ∷ vs) d refl

same_op-self : (op : Op) → same_op op op ≡ true
same_op-self op = eq-self (op_number op)

link-taken : (op : Op) (p : Place) (ts : List Token) (k : List Want) (m : Made)
    → makes (Read (syms.Links op) ∷ k) (token (kinds.Chain op) p ∷ ts) m ≡ makes (Make (does.PushPlace p) ∷ Read syms.Operand ∷ Make does.AddLink ∷ Read (syms.Links op) ∷ k) ts m
link-taken op p ts k m =
    ap (λ c. go (if c then Take (Make (does.PushPlace p) ∷ Read syms.Operand ∷ Make does.AddLink ∷ Read (syms.Links op) ∷ []) else wrong_mix) (λ xs. makes (xs ++ k) ts m)
    (makes k (token (kinds.Chain op) p ∷ ts) (skipped (syms.Links op) m))) (same_op-self op)

-- Arguments, where these stand before them.
abbrev GivensBuilt : GivensForm → Type 0
GivensBuilt gs = (r : Place) (rest : List Token) (k : List Want) (so_far : List GivenVal) (vs : List Val) (d : List DeclTree)
    → makes (Read syms.Givens ∷ k) (givens_before gs (token kinds.CloseRound r ∷ rest)) (made (givens so_far ∷ vs) d) ≡ makes k rest (made (givens (so_far ++ given_vals gs) ∷ vs) d)

call-built : (on : OnForm) (dot : Place) (n : Name) (sign : MarkPart) (l : Place) (gs : GivensForm) (r : Place) → GivensBuilt gs
    → (rest : List Token) (k : List Want) (vs : List Val) (d : List DeclTree)
    → makes (Read syms.Atom ∷ k) (atom_before (Called on dot n sign l gs r) rest) (made vs d)
    ≡ makes k rest (made (expr (tree.answer (tree.call (on_tree on) n (mark_part_tree sign) (given_trees (given_vals gs)))) ∷ vs) d)
call-built (OnThis q) dot n NoMark l gs r h rest k vs d = h r rest (Make does.FinishCall ∷ Make does.CallExpr ∷ k) [] (mark (mark_part_tree NoMark) ∷ name n ∷ receiver (on_tree (OnThis q)) ∷ vs) d
call-built (OnThis q) dot n (AMark (Exclaims z)) l gs r h rest k vs d = h r rest (Make does.FinishCall ∷ Make does.CallExpr ∷ k) [] (mark (mark_part_tree (AMark (Exclaims z))) ∷ name n ∷ receiver (on_tree (OnThis q)) ∷ vs) d
call-built (OnThis q) dot n (AMark (Asks z)) l gs r h rest k vs d = h r rest (Make does.FinishCall ∷ Make does.CallExpr ∷ k) [] (mark (mark_part_tree (AMark (Asks z))) ∷ name n ∷ receiver (on_tree (OnThis q)) ∷ vs) d
call-built (OnPath (BarePath x)) dot n NoMark l gs r h rest k vs d = h r rest (Make does.FinishCall ∷ Make does.CallExpr ∷ k) [] (mark (mark_part_tree NoMark) ∷ name n ∷ receiver (on_tree (OnPath (BarePath x))) ∷ vs) d
call-built (OnPath (BarePath x)) dot n (AMark (Exclaims z)) l gs r h rest k vs d = h r rest (Make does.FinishCall ∷ Make does.CallExpr ∷ k) [] (mark (mark_part_tree (AMark (Exclaims z))) ∷ name n ∷ receiver (on_tree (OnPath (BarePath x))) ∷ vs) d
call-built (OnPath (BarePath x)) dot n (AMark (Asks z)) l gs r h rest k vs d = h r rest (Make does.FinishCall ∷ Make does.CallExpr ∷ k) [] (mark (mark_part_tree (AMark (Asks z))) ∷ name n ∷ receiver (on_tree (OnPath (BarePath x))) ∷ vs) d
call-built (OnPath (ThisPath q y x)) dot n NoMark l gs r h rest k vs d = h r rest (Make does.FinishCall ∷ Make does.CallExpr ∷ k) [] (mark (mark_part_tree NoMark) ∷ name n ∷ receiver (on_tree (OnPath (ThisPath q y x))) ∷ vs) d
call-built (OnPath (ThisPath q y x)) dot n (AMark (Exclaims z)) l gs r h rest k vs d = h r rest (Make does.FinishCall ∷ Make does.CallExpr ∷ k) [] (mark (mark_part_tree (AMark (Exclaims z))) ∷ name n ∷ receiver (on_tree (OnPath (ThisPath q y x))) ∷ vs) d
call-built (OnPath (ThisPath q y x)) dot n (AMark (Asks z)) l gs r h rest k vs d = h r rest (Make does.FinishCall ∷ Make does.CallExpr ∷ k) [] (mark (mark_part_tree (AMark (Asks z))) ∷ name n ∷ receiver (on_tree (OnPath (ThisPath q y x))) ∷ vs) d
call-built (OnPath (ArgsPath q y x)) dot n NoMark l gs r h rest k vs d = h r rest (Make does.FinishCall ∷ Make does.CallExpr ∷ k) [] (mark (mark_part_tree NoMark) ∷ name n ∷ receiver (on_tree (OnPath (ArgsPath q y x))) ∷ vs) d
call-built (OnPath (ArgsPath q y x)) dot n (AMark (Exclaims z)) l gs r h rest k vs d = h r rest (Make does.FinishCall ∷ Make does.CallExpr ∷ k) [] (mark (mark_part_tree (AMark (Exclaims z))) ∷ name n ∷ receiver (on_tree (OnPath (ArgsPath q y x))) ∷ vs) d
call-built (OnPath (ArgsPath q y x)) dot n (AMark (Asks z)) l gs r h rest k vs d = h r rest (Make does.FinishCall ∷ Make does.CallExpr ∷ k) [] (mark (mark_part_tree (AMark (Asks z))) ∷ name n ∷ receiver (on_tree (OnPath (ArgsPath q y x))) ∷ vs) d

mutual
  pub b-expr : (e : ExprForm) (rest : List Token) (k : List Want) (vs : List Val) (d : List DeclTree) → Follows ends_expr rest
      → makes (Read syms.Expr ∷ k) (expr_before e rest) (made vs d) ≡ makes k rest (made (expr (expr_tree e) ∷ vs) d)
  b-expr (Alone a) rest k vs d h =
      swapped begins_expr (Read syms.Expr ∷ k) (Read syms.Operand ∷ Read syms.Rest ∷ k) (expr-operand k) _ _ (operand-starts a rest)
      ∙ b-operand a rest (Read syms.Rest ∷ k) vs d (ends-both rest h)
      ∙ left_out ends_expr syms.Rest passes-rest k rest _ h
  b-expr (Pair a op p b) rest k vs d h =
      let behind = token (kinds.Binary op) p ∷ operand_before b rest in
      swapped begins_expr (Read syms.Expr ∷ k) (Read syms.Operand ∷ Read syms.Rest ∷ k) (expr-operand k) _ _ (operand-starts a behind)
      ∙ b-operand a behind (Read syms.Rest ∷ k) vs d refl
      ∙ b-operand b rest (Make does.AddLink ∷ Make does.FinishChain ∷ Read syms.End ∷ k) (place p ∷ chain op (operand_tree a) [] p ∷ vs) d (ends-both rest h)
      ∙ left_out ends_expr syms.End passes-end k rest _ h
  b-expr (Chained a op p b ls) rest k vs d h =
      let behind = token (kinds.Chain op) p ∷ operand_before b (links_before ls op rest) in
      swapped begins_expr (Read syms.Expr ∷ k) (Read syms.Operand ∷ Read syms.Rest ∷ k) (expr-operand k) _ _ (operand-starts a behind)
      ∙ b-operand a behind (Read syms.Rest ∷ k) vs d refl
      ∙ b-operand b (links_before ls op rest) (Make does.AddLink ∷ Read (syms.Links op) ∷ k) (place p ∷ chain op (operand_tree a) [] p ∷ vs) d (links-follow ls op rest (ends-both rest h))
      ∙ b-links ls op (operand_tree a) (record { sign = p; operand = operand_tree b } ∷ []) p rest k vs d h
      ∙ ap (λ ts. makes k rest (made (expr (tree.chain op (operand_tree a) (tree.link p (operand_tree b) ts) p) ∷ vs) d)) (link-trees ls)
  b-expr (Converted a p t) rest k vs d h =
      let behind = token kinds.As p ∷ type_before t rest in
      swapped begins_expr (Read syms.Expr ∷ k) (Read syms.Operand ∷ Read syms.Rest ∷ k) (expr-operand k) _ _ (operand-starts a behind)
      ∙ b-operand a behind (Read syms.Rest ∷ k) vs d refl
      ∙ b-type t [] rest (Make does.ConvertExpr ∷ Read syms.End ∷ k) (place p ∷ expr (operand_tree a) ∷ vs) d (ends-both rest h)
      ∙ left_out ends_expr syms.End passes-end k rest _ h

  b-links : (ls : LinksForm) (op : Op) (first : ExprTree) (so_far : List LinkVal) (at : Place) (rest : List Token) (k : List Want) (vs : List Val) (d : List DeclTree) → Follows ends_expr rest
      → makes (Read (syms.Links op) ∷ k) (links_before ls op rest) (made (chain op first so_far at ∷ vs) d)
      ≡ makes k rest (made (expr (tree.chain op first (link_trees (so_far ++ link_vals ls)) at) ∷ vs) d)
  b-links NoLink op first so_far at rest k vs d h =
      left_out ends_expr (syms.Links op) (passes-links op) k rest _ h
      ∙ ap (λ ls. makes k rest (made (expr (tree.chain op first (link_trees ls) at) ∷ vs) d)) (sym (append-nil so_far))
  b-links (Link p a ls) op first so_far at rest k vs d h =
      link-taken op p (operand_before a (links_before ls op rest)) k _
      ∙ b-operand a (links_before ls op rest) (Make does.AddLink ∷ Read (syms.Links op) ∷ k) (place p ∷ chain op first so_far at ∷ vs) d (links-follow ls op rest (ends-both rest h))
      ∙ b-links ls op first (so_far ++ record { sign = p; operand = operand_tree a } ∷ []) at rest k vs d h
      ∙ ap (λ vals. makes k rest (made (expr (tree.chain op first (link_trees vals) at) ∷ vs) d)) (append_assoc so_far (record { sign = p; operand = operand_tree a } ∷ []) (link_vals ls))

  pub b-operand : (a : OperandForm) (rest : List Token) (k : List Want) (vs : List Val) (d : List DeclTree) → Follows ends_operand rest
      → makes (Read syms.Operand ∷ k) (operand_before a rest) (made vs d) ≡ makes k rest (made (expr (operand_tree a) ∷ vs) d)
  b-operand (Plain a) rest k vs d h =
      swapped begins_atom (Read syms.Operand ∷ k) (Read syms.Atom ∷ k) (operand-atom k) _ _ (atom-starts a rest) ∙ b-atom a rest k vs d h
  b-operand (Negated p a) rest k vs d h = b-atom a rest (Make does.NotExpr ∷ k) (place p ∷ vs) d h

  b-atom : (a : AtomForm) (rest : List Token) (k : List Want) (vs : List Val) (d : List DeclTree) → Follows ends_operand rest
      → makes (Read syms.Atom ∷ k) (atom_before a rest) (made vs d) ≡ makes k rest (made (expr (atom_tree a) ∷ vs) d)
  b-atom (ANumber n p) rest k vs d h = refl
  b-atom (AText n) rest k vs d h = refl
  b-atom (ABaseText p dot n) rest k vs d h = refl
  b-atom (AnOk p) rest k vs d h = refl
  b-atom (ATrue p) rest k vs d h = refl
  b-atom (AFalse p) rest k vs d h = refl
  b-atom (APath (BarePath n)) rest k vs d h = left_out ends_operand syms.PathAtom passes-path_atom k rest _ h
  b-atom (APath (ThisPath q x n)) rest k vs d h = left_out ends_operand syms.ThisAtom passes-this_atom k rest _ h
  b-atom (APath (ArgsPath q x n)) rest k vs d h = left_out ends_operand syms.PathAtom passes-path_atom k rest _ h
  b-atom (Grouped l e r) rest k vs d h = b-expr e (token kinds.CloseRound r ∷ rest) (Read syms.RightRound ∷ k) vs d refl
  b-atom (Indexed (BarePath n) l e r) rest k vs d h = index-built e (λ us j ws g. b-expr e us j ws g) (path_tree (BarePath n)) l r rest k vs d
  b-atom (Indexed (ThisPath q x n) l e r) rest k vs d h = index-built e (λ us j ws g. b-expr e us j ws g) (path_tree (ThisPath q x n)) l r rest k vs d
  b-atom (Indexed (ArgsPath q x n) l e r) rest k vs d h = index-built e (λ us j ws g. b-expr e us j ws g) (path_tree (ArgsPath q x n)) l r rest k vs d
  b-atom (Sliced (BarePath n) l NoPart dots NoPart r) rest k vs d h = refl
  b-atom (Sliced (BarePath n) l NoPart dots (APart f) r) rest k vs d h = end-built f (λ us j ws g. b-expr f us j ws g) tree.absent (path_tree (BarePath n)) l r rest k vs d
  b-atom (Sliced (BarePath n) l (APart e) dots NoPart r) rest k vs d h = start-built e (λ us j ws g. b-expr e us j ws g) dots _ k (place l ∷ path (path_tree (BarePath n)) ∷ vs) d
  b-atom (Sliced (BarePath n) l (APart e) dots (APart f) r) rest k vs d h = start-built e (λ us j ws g. b-expr e us j ws g) dots _ k (place l ∷ path (path_tree (BarePath n)) ∷ vs) d ∙ end-built f (λ us j ws g. b-expr f us j ws g) (tree.present (expr_tree e)) (path_tree (BarePath n)) l r rest k vs d
  b-atom (Sliced (ThisPath q x n) l NoPart dots NoPart r) rest k vs d h = refl
  b-atom (Sliced (ThisPath q x n) l NoPart dots (APart f) r) rest k vs d h = end-built f (λ us j ws g. b-expr f us j ws g) tree.absent (path_tree (ThisPath q x n)) l r rest k vs d
  b-atom (Sliced (ThisPath q x n) l (APart e) dots NoPart r) rest k vs d h = start-built e (λ us j ws g. b-expr e us j ws g) dots _ k (place l ∷ path (path_tree (ThisPath q x n)) ∷ vs) d
  b-atom (Sliced (ThisPath q x n) l (APart e) dots (APart f) r) rest k vs d h = start-built e (λ us j ws g. b-expr e us j ws g) dots _ k (place l ∷ path (path_tree (ThisPath q x n)) ∷ vs) d ∙ end-built f (λ us j ws g. b-expr f us j ws g) (tree.present (expr_tree e)) (path_tree (ThisPath q x n)) l r rest k vs d
  b-atom (Sliced (ArgsPath q x n) l NoPart dots NoPart r) rest k vs d h = refl
  b-atom (Sliced (ArgsPath q x n) l NoPart dots (APart f) r) rest k vs d h = end-built f (λ us j ws g. b-expr f us j ws g) tree.absent (path_tree (ArgsPath q x n)) l r rest k vs d
  b-atom (Sliced (ArgsPath q x n) l (APart e) dots NoPart r) rest k vs d h = start-built e (λ us j ws g. b-expr e us j ws g) dots _ k (place l ∷ path (path_tree (ArgsPath q x n)) ∷ vs) d
  b-atom (Sliced (ArgsPath q x n) l (APart e) dots (APart f) r) rest k vs d h = start-built e (λ us j ws g. b-expr e us j ws g) dots _ k (place l ∷ path (path_tree (ArgsPath q x n)) ∷ vs) d ∙ end-built f (λ us j ws g. b-expr f us j ws g) (tree.present (expr_tree e)) (path_tree (ArgsPath q x n)) l r rest k vs d
  b-atom (Called on dot n sign l gs r) rest k vs d h =
      call-built on dot n sign l gs r (λ q us j ls ws g. b-givens gs q us j ls ws g) rest k vs d
      ∙ ap (λ ts. makes k rest (made (expr (tree.answer (tree.call (on_tree on) n (mark_part_tree sign) ts)) ∷ vs) d)) (given-trees gs)

  pub b-givens : (gs : GivensForm) (r : Place) (rest : List Token) (k : List Want) (so_far : List GivenVal) (vs : List Val) (d : List DeclTree)
      → makes (Read syms.Givens ∷ k) (givens_before gs (token kinds.CloseRound r ∷ rest)) (made (givens so_far ∷ vs) d) ≡ makes k rest (made (givens (so_far ++ given_vals gs) ∷ vs) d)
  b-givens NoGiven r rest k so_far vs d = ap (λ gs. makes k rest (made (givens gs ∷ vs) d)) (sym (append-nil so_far))
  b-givens (FirstGiven n c e more) r rest k so_far vs d =
      b-expr e (more_givens_before more (token kinds.CloseRound r ∷ rest)) (Make does.AddGiven ∷ Read syms.MoreGivens ∷ k) (name n ∷ givens so_far ∷ vs) d (more_givens-follow more r rest)
      ∙ b-more_givens more r rest k (so_far ++ record { name = n; value = expr_tree e } ∷ []) vs d
      ∙ ap (λ gs. makes k rest (made (givens gs ∷ vs) d)) (append_assoc so_far (record { name = n; value = expr_tree e } ∷ []) (more_given_vals more))

  b-more_givens : (more : MoreGivensForm) (r : Place) (rest : List Token) (k : List Want) (so_far : List GivenVal) (vs : List Val) (d : List DeclTree)
      → makes (Read syms.MoreGivens ∷ k) (more_givens_before more (token kinds.CloseRound r ∷ rest)) (made (givens so_far ∷ vs) d) ≡ makes k rest (made (givens (so_far ++ more_given_vals more) ∷ vs) d)
  b-more_givens LastGiven r rest k so_far vs d = ap (λ gs. makes k rest (made (givens gs ∷ vs) d)) (sym (append-nil so_far))
  b-more_givens (GivenComma p) r rest k so_far vs d = ap (λ gs. makes k rest (made (givens gs ∷ vs) d)) (sym (append-nil so_far))
  b-more_givens (NextGiven p n c e more) r rest k so_far vs d =
      b-expr e (more_givens_before more (token kinds.CloseRound r ∷ rest)) (Make does.AddGiven ∷ Read syms.MoreGivens ∷ k) (name n ∷ givens so_far ∷ vs) d (more_givens-follow more r rest)
      ∙ b-more_givens more r rest k (so_far ++ record { name = n; value = expr_tree e } ∷ []) vs d
      ∙ ap (λ gs. makes k rest (made (givens gs ∷ vs) d)) (append_assoc so_far (record { name = n; value = expr_tree e } ∷ []) (more_given_vals more))

  pub b-type : (t : TypeForm) (ps : List PrefixVal) (rest : List Token) (k : List Want) (vs : List Val) (d : List DeclTree) → Follows ends_operand rest
      → makes (Read syms.WholeType ∷ k) (type_before t rest) (made (prefixes ps ∷ vs) d) ≡ makes k rest (made (type (all_prefixed ps (type_tree t)) ∷ vs) d)
  b-type (BaseType p dot n b) ps rest k vs d h = b-bounds b rest (Make does.FinishType ∷ k) (core (base_core n p) ∷ prefixes ps ∷ vs) d h
  b-type (StatusType p dot w b) ps rest k vs d h = b-bounds b rest (Make does.FinishType ∷ k) (core (status_core p) ∷ prefixes ps ∷ vs) d h
  b-type (SliceType p t) ps rest k vs d h =
      b-type t (ps ++ slice_prefix p ∷ []) rest k vs d h
      ∙ ap (λ u. makes k rest (made (type u ∷ vs) d)) (prefixed-more ps (slice_prefix p) (type_tree t))
  b-type (ArrayType p l e r t) ps rest k vs d h =
      b-expr e (token kinds.CloseSquare r ∷ type_before t rest) (Read syms.RightSquare ∷ Make does.AddArray ∷ Read syms.WholeType ∷ k) (place p ∷ prefixes ps ∷ vs) d refl
      ∙ b-type t (ps ++ array_prefix (expr_tree e) p ∷ []) rest k vs d h
      ∙ ap (λ u. makes k rest (made (type u ∷ vs) d)) (prefixed-more ps (array_prefix (expr_tree e) p) (type_tree t))
  b-type (StructType n) ps rest k vs d h = refl

  b-bounds : (b : BoundsForm) (rest : List Token) (k : List Want) (vs : List Val) (d : List DeclTree) → Follows ends_operand rest
      → makes (Read syms.BoundsPart ∷ k) (bounds_before b rest) (made vs d) ≡ makes k rest (made (bounds (bounds_tree b) ∷ vs) d)
  b-bounds NoBounds rest k vs d h = left_out ends_operand syms.BoundsPart passes-bounds k rest _ h
  b-bounds (Bounds l NoPart dots high r) rest k vs d h =
      b-expr high (token kinds.CloseSquare r ∷ rest) (Read syms.RightSquare ∷ Make does.SomeBounds ∷ k) (part tree.absent ∷ vs) d refl
  b-bounds (Bounds l (APart e) dots high r) rest k vs d h =
      let behind = expr_before high (token kinds.CloseSquare r ∷ rest) in
      let j = Read syms.Expr ∷ Read syms.RightSquare ∷ Make does.SomeBounds ∷ k in
      first-expr e (token kinds.DotsEquals dots ∷ behind) (Read syms.Low ∷ k) (Read syms.Expr ∷ Make does.SomePart ∷ Read syms.ADotsEquals ∷ j) _ (low-expr k)
      ∙ b-expr e (token kinds.DotsEquals dots ∷ behind) (Make does.SomePart ∷ Read syms.ADotsEquals ∷ j) vs d refl
      ∙ b-expr high (token kinds.CloseSquare r ∷ rest) (Read syms.RightSquare ∷ Make does.SomeBounds ∷ k) (part (tree.present (expr_tree e)) ∷ vs) d refl
