-- The tokens of a form stand before all that follows: with more after them, they are the same.
use Rattle.std.proofs.Common.{◌≡◌, ◌∙◌, ap, List, ◌∷◌, ◌++◌, refl}
use Rattle.wf_ast.specs.declared.operators.Op.{Op}
use Rattle.wf_parse_grammar.specs.declared.tokens.Kind.TheVariants as kinds
use Rattle.wf_parse_grammar.specs.declared.tokens.Token.{Token}
use Rattle.wf_parse_grammar.specs.Grammar.{token, name_token, PathForm, BarePath, ThisPath, ArgsPath, OnForm, OnThis, OnPath, Exclaims, Asks, MarkPart, NoMark, AMark}
use Rattle.wf_parse_grammar.specs.Grammar.{ExprForm, Alone, Pair, Chained, Converted, LinksForm, NoLink, Link, OperandForm, Plain, Negated}
use Rattle.wf_parse_grammar.specs.Grammar.{AtomForm, ANumber, AText, ABaseText, AnOk, ATrue, AFalse, APath, Grouped, Indexed, Sliced, Called, PartForm, NoPart, APart}
use Rattle.wf_parse_grammar.specs.Grammar.{GivensForm, NoGiven, FirstGiven, MoreGivensForm, LastGiven, GivenComma, NextGiven, TypeForm, BaseType, StatusType, SliceType, ArrayType, StructType, BoundsForm, NoBounds, Bounds}
use Rattle.wf_parse_grammar.specs.Grammar.{path_before, on_before, mark_part_before, expr_before, links_before, operand_before, atom_before, part_before, givens_before, more_givens_before, type_before, bounds_before}

pub more-path : (path : PathForm) (ts rest : List Token) → path_before path (ts ++ rest) ≡ path_before path ts ++ rest
more-path (BarePath n) ts rest = refl
more-path (ThisPath p d n) ts rest = refl
more-path (ArgsPath p d n) ts rest = refl

pub more-on : (on : OnForm) (ts rest : List Token) → on_before on (ts ++ rest) ≡ on_before on ts ++ rest
more-on (OnThis p) ts rest = refl
more-on (OnPath path) ts rest = more-path path ts rest

pub more-mark : (mark : MarkPart) (ts rest : List Token) → mark_part_before mark (ts ++ rest) ≡ mark_part_before mark ts ++ rest
more-mark NoMark ts rest = refl
more-mark (AMark (Exclaims p)) ts rest = refl
more-mark (AMark (Asks p)) ts rest = refl

mutual
  pub more-expr : (e : ExprForm) (ts rest : List Token) → expr_before e (ts ++ rest) ≡ expr_before e ts ++ rest
  more-expr (Alone a) ts rest = more-operand a ts rest
  more-expr (Pair a op p b) ts rest = ap (λ us. operand_before a (token (kinds.Binary op) p ∷ us)) (more-operand b ts rest) ∙ more-operand a (token (kinds.Binary op) p ∷ operand_before b ts) rest
  more-expr (Chained a op p b ls) ts rest =
      ap (λ us. operand_before a (token (kinds.Chain op) p ∷ operand_before b us)) (more-links ls op ts rest)
      ∙ ap (λ us. operand_before a (token (kinds.Chain op) p ∷ us)) (more-operand b (links_before ls op ts) rest)
      ∙ more-operand a (token (kinds.Chain op) p ∷ operand_before b (links_before ls op ts)) rest
  more-expr (Converted a p t) ts rest = ap (λ us. operand_before a (token kinds.As p ∷ us)) (more-type t ts rest) ∙ more-operand a (token kinds.As p ∷ type_before t ts) rest

  pub more-links : (ls : LinksForm) (op : Op) (ts rest : List Token) → links_before ls op (ts ++ rest) ≡ links_before ls op ts ++ rest
  more-links NoLink op ts rest = refl
  more-links (Link p a ls) op ts rest = ap (λ us. token (kinds.Chain op) p ∷ operand_before a us) (more-links ls op ts rest) ∙ ap (λ us. token (kinds.Chain op) p ∷ us) (more-operand a (links_before ls op ts) rest)

  pub more-operand : (a : OperandForm) (ts rest : List Token) → operand_before a (ts ++ rest) ≡ operand_before a ts ++ rest
  more-operand (Plain a) ts rest = more-atom a ts rest
  more-operand (Negated p a) ts rest = ap (λ us. token kinds.Not p ∷ us) (more-atom a ts rest)

  more-atom : (a : AtomForm) (ts rest : List Token) → atom_before a (ts ++ rest) ≡ atom_before a ts ++ rest
  more-atom (ANumber n p) ts rest = refl
  more-atom (AText n) ts rest = refl
  more-atom (ABaseText p d n) ts rest = refl
  more-atom (AnOk p) ts rest = refl
  more-atom (ATrue p) ts rest = refl
  more-atom (AFalse p) ts rest = refl
  more-atom (APath path) ts rest = more-path path ts rest
  more-atom (Grouped l e r) ts rest = ap (λ us. token kinds.OpenRound l ∷ us) (more-expr e (token kinds.CloseRound r ∷ ts) rest)
  more-atom (Indexed path l e r) ts rest =
      ap (λ us. path_before path (token kinds.OpenSquare l ∷ us)) (more-expr e (token kinds.CloseSquare r ∷ ts) rest)
      ∙ more-path path (token kinds.OpenSquare l ∷ expr_before e (token kinds.CloseSquare r ∷ ts)) rest
  more-atom (Sliced path l i d j r) ts rest =
      ap (λ us. path_before path (token kinds.OpenSquare l ∷ part_before i (token kinds.Dots d ∷ us))) (more-part j (token kinds.CloseSquare r ∷ ts) rest)
      ∙ ap (λ us. path_before path (token kinds.OpenSquare l ∷ us)) (more-part i (token kinds.Dots d ∷ part_before j (token kinds.CloseSquare r ∷ ts)) rest)
      ∙ more-path path (token kinds.OpenSquare l ∷ part_before i (token kinds.Dots d ∷ part_before j (token kinds.CloseSquare r ∷ ts))) rest
  more-atom (Called on d n mark l gs r) ts rest =
      ap (λ us. on_before on (token kinds.Dot d ∷ name_token n ∷ mark_part_before mark (token kinds.OpenRound l ∷ us))) (more-givens gs (token kinds.CloseRound r ∷ ts) rest)
      ∙ ap (λ us. on_before on (token kinds.Dot d ∷ name_token n ∷ us)) (more-mark mark (token kinds.OpenRound l ∷ givens_before gs (token kinds.CloseRound r ∷ ts)) rest)
      ∙ more-on on (token kinds.Dot d ∷ name_token n ∷ mark_part_before mark (token kinds.OpenRound l ∷ givens_before gs (token kinds.CloseRound r ∷ ts))) rest

  more-part : (part : PartForm) (ts rest : List Token) → part_before part (ts ++ rest) ≡ part_before part ts ++ rest
  more-part NoPart ts rest = refl
  more-part (APart e) ts rest = more-expr e ts rest

  pub more-givens : (gs : GivensForm) (ts rest : List Token) → givens_before gs (ts ++ rest) ≡ givens_before gs ts ++ rest
  more-givens NoGiven ts rest = refl
  more-givens (FirstGiven n c e more) ts rest =
      ap (λ us. name_token n ∷ token kinds.Colon c ∷ expr_before e us) (more-more_givens more ts rest) ∙ ap (λ us. name_token n ∷ token kinds.Colon c ∷ us) (more-expr e (more_givens_before more ts) rest)

  more-more_givens : (more : MoreGivensForm) (ts rest : List Token) → more_givens_before more (ts ++ rest) ≡ more_givens_before more ts ++ rest
  more-more_givens LastGiven ts rest = refl
  more-more_givens (GivenComma p) ts rest = refl
  more-more_givens (NextGiven p n c e more) ts rest =
      ap (λ us. token kinds.Comma p ∷ name_token n ∷ token kinds.Colon c ∷ expr_before e us) (more-more_givens more ts rest)
      ∙ ap (λ us. token kinds.Comma p ∷ name_token n ∷ token kinds.Colon c ∷ us) (more-expr e (more_givens_before more ts) rest)

  pub more-type : (t : TypeForm) (ts rest : List Token) → type_before t (ts ++ rest) ≡ type_before t ts ++ rest
  more-type (BaseType p d n b) ts rest = ap (λ us. token kinds.Base p ∷ token kinds.Dot d ∷ name_token n ∷ us) (more-bounds b ts rest)
  more-type (StatusType p d x b) ts rest = ap (λ us. token kinds.Base p ∷ token kinds.Dot d ∷ token kinds.Status x ∷ us) (more-bounds b ts rest)
  more-type (SliceType p t) ts rest = ap (λ us. token kinds.Slice p ∷ us) (more-type t ts rest)
  more-type (ArrayType p l e r t) ts rest =
      ap (λ us. token kinds.Array p ∷ token kinds.OpenSquare l ∷ expr_before e (token kinds.CloseSquare r ∷ us)) (more-type t ts rest)
      ∙ ap (λ us. token kinds.Array p ∷ token kinds.OpenSquare l ∷ us) (more-expr e (token kinds.CloseSquare r ∷ type_before t ts) rest)
  more-type (StructType n) ts rest = refl

  more-bounds : (b : BoundsForm) (ts rest : List Token) → bounds_before b (ts ++ rest) ≡ bounds_before b ts ++ rest
  more-bounds NoBounds ts rest = refl
  more-bounds (Bounds l low d high r) ts rest =
      ap (λ us. token kinds.OpenSquare l ∷ part_before low (token kinds.DotsEquals d ∷ us)) (more-expr high (token kinds.CloseSquare r ∷ ts) rest)
      ∙ ap (λ us. token kinds.OpenSquare l ∷ us) (more-part low (token kinds.DotsEquals d ∷ expr_before high (token kinds.CloseSquare r ∷ ts)) rest)
