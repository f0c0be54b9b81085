-- What is wanted, as lists of tokens: `Word s ts rest` says that the tokens `ts` complete the symbol s up to
-- `rest`. Of a symbol that is left of a production it speaks with whatever stood before it.
use Rattle.std.specs.Prelude.{◌≡◌, List, [], ◌∷◌}
use Rattle.wf_text.specs.declared.place.Place.{Place}
use Rattle.wf_ast.specs.declared.parsed.Name.{Name}
use Rattle.wf_parse_grammar.specs.declared.tokens.Kind.TheVariants as kinds
use Rattle.wf_parse_grammar.specs.declared.tokens.Token.{Token}
use Rattle.wf_parse_grammar.specs.Grammar.{token, name_token, text_token, PathForm, MarkForm, MarkPart}
use Rattle.wf_parse_grammar.specs.Grammar.{ExprForm, LinksForm, OperandForm}
use Rattle.wf_parse_grammar.specs.Grammar.{AtomForm, PartForm}
use Rattle.wf_parse_grammar.specs.Grammar.{GivensForm, MoreGivensForm, TypeForm, BoundsForm}
use Rattle.wf_parse_grammar.specs.Grammar.{TargetForm, CallForm, LabelPart, ResultForm, ViaForm, ClausesForm, EndForm}
use Rattle.wf_parse_grammar.specs.Grammar.{StmtForm, ElseForm, BlockForm, ItemsForm, MoreItemsForm}
use Rattle.wf_parse_grammar.specs.Grammar.{VarsForm, MoreVarsForm, FieldsForm, MoreFieldsForm, OtherFieldsForm, TypePart, PublicForm, DeclForm, FileForm}
use Rattle.wf_parse_grammar.specs.Grammar.{path_before, mark_before, mark_part_before, expr_before, links_before, operand_before, atom_before, part_before, givens_before, more_givens_before, type_before, bounds_before, target_before, call_before, label_before, result_before, via_before, clauses_before, end_before, stmt_before, else_before, block_before, items_before, more_items_before, more_vars_before, vars_before, more_fields_before, fields_before, other_fields_before, type_part_before, public_before, decl_before, file_before}
use Rattle.wf_parse_grammar.specs.declared.symbols.Sym.{Sym}
use Rattle.wf_parse_grammar.specs.declared.symbols.Sym.TheVariants as syms

abbrev pub Word : Sym → List Token → List Token → Type 0
Word syms.File ts rest = (f : FileForm) × (ts ≡ file_before f rest)
Word syms.Decl ts rest = (pu : PublicForm) → (d : DeclForm) × (public_before pu ts ≡ decl_before d rest)
Word syms.FieldsMark ts rest = (mark : MarkPart) × (l : Place) × (fs : FieldsForm) × (r : Place) × (ts ≡ mark_part_before mark (token kinds.OpenRound l ∷ fields_before fs (token kinds.CloseRound r ∷ rest)))
Word syms.FieldsOpen ts rest = (l : Place) × (fs : FieldsForm) × (r : Place) × (ts ≡ token kinds.OpenRound l ∷ fields_before fs (token kinds.CloseRound r ∷ rest))
Word syms.Fields ts rest = (fs : FieldsForm) × (r : Place) × (ts ≡ fields_before fs (token kinds.CloseRound r ∷ rest))
Word syms.MoreFields ts rest = (more : MoreFieldsForm) × (r : Place) × (ts ≡ more_fields_before more (token kinds.CloseRound r ∷ rest))
Word syms.OtherFields ts rest = (o : OtherFieldsForm) × (ts ≡ other_fields_before o rest)
Word syms.MethodTail ts rest = (t : TypePart) × (x : Place) × (vs : VarsForm) × (y : Place) × (ts ≡ type_part_before t (token kinds.OpenCurly x ∷ vars_before vs (token kinds.CloseCurly y ∷ rest)))
Word syms.Body ts rest = (x : Place) × (vs : VarsForm) × (y : Place) × (ts ≡ token kinds.OpenCurly x ∷ vars_before vs (token kinds.CloseCurly y ∷ rest))
Word syms.WholeType ts rest = (t : TypeForm) × (ts ≡ type_before t rest)
Word syms.ArrayLength ts rest = (l : Place) × (e : ExprForm) × (r : Place) × (ts ≡ token kinds.OpenSquare l ∷ expr_before e (token kinds.CloseSquare r ∷ rest))
Word syms.BaseName ts rest = (p d : Place) → (t : TypeForm) × (token kinds.Base p ∷ token kinds.Dot d ∷ ts ≡ type_before t rest)
Word syms.BoundsPart ts rest = (b : BoundsForm) × (ts ≡ bounds_before b rest)
Word syms.Low ts rest = (low : PartForm) × (d : Place) × (high : ExprForm) × (r : Place) × (ts ≡ part_before low (token kinds.DotsEquals d ∷ expr_before high (token kinds.CloseSquare r ∷ rest)))
Word syms.Vars ts rest = (vs : VarsForm) × (y : Place) × (ts ≡ vars_before vs (token kinds.CloseCurly y ∷ rest))
Word syms.MoreVars ts rest = (more : MoreVarsForm) × (y : Place) × (ts ≡ more_vars_before more (token kinds.CloseCurly y ∷ rest))
Word syms.Block ts rest = (b : BlockForm) × (ts ≡ block_before b rest)
Word syms.Items ts rest = (is : ItemsForm) × (y : Place) × (ts ≡ items_before is (token kinds.CloseCurly y ∷ rest))
Word syms.MoreItems ts rest = (more : MoreItemsForm) × (y : Place) × (ts ≡ more_items_before more (token kinds.CloseCurly y ∷ rest))
Word syms.PathStmt ts rest = (path : PathForm) → (s : StmtForm) × (path_before path ts ≡ stmt_before s rest)
Word syms.ThisStmt ts rest = (p d : Place) (n : Name) → (s : StmtForm) × (token kinds.This p ∷ token kinds.Dot d ∷ name_token n ∷ ts ≡ stmt_before s rest)
Word syms.TargetStmt ts rest = (t : TargetForm) → (s : StmtForm) × (target_before t ts ≡ stmt_before s rest)
Word syms.Call ts rest = (c : CallForm) × (ts ≡ call_before c rest)
Word syms.CallThis ts rest = (p d : Place) (n : Name) → (c : CallForm) × (token kinds.This p ∷ token kinds.Dot d ∷ name_token n ∷ ts ≡ call_before c rest)
Word syms.CallMark ts rest = (mark : MarkForm) × (l : Place) × (gs : GivensForm) × (r : Place) × (ts ≡ mark_before mark (token kinds.OpenRound l ∷ givens_before gs (token kinds.CloseRound r ∷ rest)))
Word syms.Else ts rest = (o : ElseForm) × (ts ≡ else_before o rest)
Word syms.ElseTail ts rest = (p : Place) → (o : ElseForm) × (token kinds.Else p ∷ ts ≡ else_before o rest)
Word syms.WhileHead ts rest = (p : Place) → (s : StmtForm) × (token kinds.While p ∷ ts ≡ stmt_before s rest)
Word syms.LabelHead ts rest = (p d : Place) → (s : StmtForm) × (token kinds.While p ∷ token kinds.Dot d ∷ ts ≡ stmt_before s rest)
Word syms.Clauses ts rest = (cs : ClausesForm) × (b : BlockForm) × (ts ≡ clauses_before cs (block_before b rest))
Word syms.ClauseTail ts rest = (p : Place) → (cs : ClausesForm) × (b : BlockForm) × (token kinds.Comma p ∷ ts ≡ clauses_before cs (block_before b rest))
Word syms.EndPart ts rest = (o : EndForm) × (ts ≡ end_before o rest)
Word (syms.EndLabel label) ts rest = (w x y : Place) × (ts ≡ token kinds.Endwhile w ∷ token kinds.Dot x ∷ token (kinds.Name label) y ∷ rest)
Word (syms.Label label) ts rest = (y : Place) × (ts ≡ token (kinds.Name label) y ∷ rest)
Word syms.LabelPart ts rest = (l : LabelPart) × (ts ≡ label_before l rest)
Word syms.Result ts rest = (r : ResultForm) × (ts ≡ result_before r rest)
Word syms.Via ts rest = (v : ViaForm) × (ts ≡ via_before v rest)
Word syms.Expr ts rest = (e : ExprForm) × (ts ≡ expr_before e rest)
Word syms.Rest ts rest = (a : OperandForm) → (e : ExprForm) × (operand_before a ts ≡ expr_before e rest)
Word (syms.Links op) ts rest = (ls : LinksForm) × (ts ≡ links_before ls op rest)
Word syms.End ts rest = ts ≡ rest
Word syms.Operand ts rest = (a : OperandForm) × (ts ≡ operand_before a rest)
Word syms.Atom ts rest = (a : AtomForm) × (ts ≡ atom_before a rest)
Word syms.PathAtom ts rest = (path : PathForm) → (a : AtomForm) × (path_before path ts ≡ atom_before a rest)
Word syms.ThisAtom ts rest = (p d : Place) (n : Name) → (a : AtomForm) × (token kinds.This p ∷ token kinds.Dot d ∷ name_token n ∷ ts ≡ atom_before a rest)
Word syms.Cut ts rest = (path : PathForm) (l : Place) → (a : AtomForm) × (path_before path (token kinds.OpenSquare l ∷ ts) ≡ atom_before a rest)
Word syms.CutTail ts rest = (path : PathForm) (l : Place) (e : ExprForm) → (a : AtomForm) × (path_before path (token kinds.OpenSquare l ∷ expr_before e ts) ≡ atom_before a rest)
Word syms.CutEnd ts rest = (j : PartForm) × (r : Place) × (ts ≡ part_before j (token kinds.CloseSquare r ∷ rest))
Word syms.CallOpen ts rest = (mark : MarkPart) × (l : Place) × (gs : GivensForm) × (r : Place) × (ts ≡ mark_part_before mark (token kinds.OpenRound l ∷ givens_before gs (token kinds.CloseRound r ∷ rest)))
Word syms.GivensOpen ts rest = (l : Place) × (gs : GivensForm) × (r : Place) × (ts ≡ token kinds.OpenRound l ∷ givens_before gs (token kinds.CloseRound r ∷ rest))
Word syms.Givens ts rest = (gs : GivensForm) × (r : Place) × (ts ≡ givens_before gs (token kinds.CloseRound r ∷ rest))
Word syms.MoreGivens ts rest = (more : MoreGivensForm) × (r : Place) × (ts ≡ more_givens_before more (token kinds.CloseRound r ∷ rest))
Word syms.AName ts rest = (n : Name) × (ts ≡ name_token n ∷ rest)
Word syms.AText ts rest = (n : Name) × (ts ≡ text_token n ∷ rest)
Word syms.ADot ts rest = (p : Place) × (ts ≡ token kinds.Dot p ∷ rest)
Word syms.AColon ts rest = (p : Place) × (ts ≡ token kinds.Colon p ∷ rest)
Word syms.ASemicolon ts rest = (p : Place) × (ts ≡ token kinds.Semicolon p ∷ rest)
Word syms.AnEquals ts rest = (p : Place) × (ts ≡ token kinds.Equals p ∷ rest)
Word syms.AQuestion ts rest = (p : Place) × (ts ≡ token kinds.Question p ∷ rest)
Word syms.ADotsEquals ts rest = (p : Place) × (ts ≡ token kinds.DotsEquals p ∷ rest)
Word syms.RightRound ts rest = (p : Place) × (ts ≡ token kinds.CloseRound p ∷ rest)
Word syms.RightSquare ts rest = (p : Place) × (ts ≡ token kinds.CloseSquare p ∷ rest)

-- The tokens complete the symbols of a stack, one after the other.
abbrev pub Words : List Sym → List Token → List Token → Type 0
Words [] ts rest = ts ≡ rest
Words (s ∷ k) ts rest = (mid : List Token) × Word s ts mid × Words k mid rest
