-- The rows of the table that begin like an expression, where the token isn't their own.
use Rattle.std.proofs.Common.{◌≡◌, [], ◌∷◌, refl}
use Rattle.wf_text.specs.declared.place.Place.{Place}
use Rattle.wf_parse_grammar.specs.declared.symbols.Action.TheVariants as does
use Rattle.wf_parse_grammar.specs.declared.symbols.Sym.TheVariants as syms
use Rattle.wf_parse_grammar.specs.declared.symbols.Want.TheVariants.{Read, Make}
use Rattle.wf_parse_grammar.specs.declared.tokens.Kind.{Kind}
use Rattle.wf_parse_grammar.specs.declared.tokens.Kind.TheVariants as kinds
use Rattle.wf_parse_grammar.specs.Building.{followed, operand_build, cut_build, cut_end_build, while_build, low_build}

pub cut_of_expr : (t : Kind) (p : Place) → (t ≡ kinds.Dots → ⊥) → followed (operand_build t p) (Read syms.Rest ∷ Read syms.CutTail ∷ []) ≡ cut_build t p
cut_of_expr kinds.Dots p other = absurd (other refl)
cut_of_expr t p other = refl

pub cut_end_of_expr : (t : Kind) (p : Place) → (t ≡ kinds.CloseSquare → ⊥) → followed (operand_build t p) (Read syms.Rest ∷ Make does.SomePart ∷ Read syms.RightSquare ∷ Make does.SliceExpr ∷ []) ≡ cut_end_build t p
cut_end_of_expr kinds.CloseSquare p other = absurd (other refl)
cut_end_of_expr t p other = refl

pub while_of_expr : (t : Kind) (p : Place) → (t ≡ kinds.Dot → ⊥) → followed (operand_build t p) (Read syms.Rest ∷ Make does.StartClauses ∷ Read syms.Clauses ∷ Read syms.EndPart ∷ Make does.LoopStmt ∷ []) ≡ while_build t p
while_of_expr kinds.Dot p other = absurd (other refl)
while_of_expr t p other = refl

pub low_of_expr : (t : Kind) (p : Place) → (t ≡ kinds.DotsEquals → ⊥) → followed (operand_build t p) (Read syms.Rest ∷ Make does.SomePart ∷ Read syms.ADotsEquals ∷ Read syms.Expr ∷ Read syms.RightSquare ∷ Make does.SomeBounds ∷ []) ≡ low_build t p
low_of_expr kinds.DotsEquals p other = absurd (other refl)
low_of_expr t p other = refl
