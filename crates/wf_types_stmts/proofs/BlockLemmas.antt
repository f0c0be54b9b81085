-- Statements and arms, one after the other.
use Rattle.std.proofs.Common.{◌≡◌, ◌∙◌, refl, sym, ap, ℕ, ◌+◌, ◌<◌, List, [], ◌∷◌, ◌++◌, length, drop, slice_index_or, Option}
use Rattle.std.proofs.lemmas.List.{append_assoc}
use Rattle.wf_text.specs.declared.place.Place.{Place}
use Rattle.wf_text.specs.declared.rules.Refusal.{Refusal}
use Rattle.wf_ast.specs.declared.numbers.StmtId.{StmtId}
use Rattle.wf_ast.specs.declared.parsed.Arm.{Arm}
use Rattle.wf_named.specs.NamedTree.{NamedExprTree, NamedStmtTree, NamedArmTrees}
use Rattle.wf_named.specs.NamedTrees.{expr_at, stmt_at, items_at, block_at, arms_at}
use Rattle.wf_types_rules.specs.declared.settings.Setting.{Setting}
use Rattle.wf_types_rules.specs.Judgements.{closing_brace}
use Rattle.wf_types_rules.specs.Parts.{Part, stmt_parts, block_parts, arms_parts, condition_parts}
use Rattle.wf_types_exprs.specs.Judged.{judged}
use Rattle.wf_types_exprs.proofs.JudgedLaws.{judged-append}
use Rattle.wf_types_exprs.proofs.ListLemmas.{drop-one}

-- Three lists of parts.
pub three_parts : (s : Setting) (found next : Option Refusal) (xs ys zs : List Part) → next ≡ judged s found (xs ++ ys) → judged s next zs ≡ judged s found (xs ++ (ys ++ zs))
three_parts s found next xs ys zs e = ap (λ f. judged s f zs) e ∙ sym (judged-append s found (xs ++ ys) zs) ∙ ap (judged s found) (append_assoc xs ys zs)

pub two_parts : (s : Setting) (found next : Option Refusal) (xs ys : List Part) → next ≡ judged s found xs → judged s next ys ≡ judged s found (xs ++ ys)
two_parts s found next xs ys e = ap (λ f. judged s f ys) e ∙ sym (judged-append s found xs ys)

-- A body's closing brace.
pub closes : (ts : List NamedStmtTree) (ss : List StmtId) (at : Place) → at ≡ closing_brace (items_at ts ss at)
closes ts [] at = refl
closes ts (s ∷ ss) at = closes ts ss at

module _ (ts : List NamedStmtTree) (ss : List StmtId) (at : Place) (i : ℕ) (d : StmtId) (h : i < length ss) where
  pub stmt_next : (s : Setting) (before next : Option Refusal) → next ≡ judged s before (stmt_parts (stmt_at ts (slice_index_or ss i d)))
      → judged s next (block_parts (items_at ts (drop (i + 1) ss) at)) ≡ judged s before (block_parts (items_at ts (drop i ss) at))
  stmt_next s before next e =
      two_parts s before next (stmt_parts (stmt_at ts (slice_index_or ss i d))) (block_parts (items_at ts (drop (i + 1) ss) at)) e
      ∙ sym (ap (λ xs. judged s before (block_parts (items_at ts xs at))) (drop-one ss i d h))

-- An arm of an `if`.
pub arm_next : (es : List NamedExprTree) (ts : List NamedStmtTree) (last : NamedArmTrees) (arms : List Arm) (i : ℕ) (x : Arm) → x ≡ slice_index_or arms i x → i < length arms
    → (s : Setting) (before next : Option Refusal) → next ≡ judged s before (condition_parts (expr_at es x.condition) ++ block_parts (block_at ts x.body))
    → judged s next (arms_parts (arms_at es ts (drop (i + 1) arms) last)) ≡ judged s before (arms_parts (arms_at es ts (drop i arms) last))
arm_next es ts last arms i x is h s before next e =
    let split : drop i arms ≡ x ∷ drop (i + 1) arms = drop-one arms i x h ∙ ap (λ y. y ∷ drop (i + 1) arms) (sym is) in
    three_parts s before next (condition_parts (expr_at es x.condition)) (block_parts (block_at ts x.body)) (arms_parts (arms_at es ts (drop (i + 1) arms) last)) e
    ∙ sym (ap (λ xs. judged s before (arms_parts (arms_at es ts xs last))) split)
