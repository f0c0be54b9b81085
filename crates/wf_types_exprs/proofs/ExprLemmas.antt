-- What is found at an expression after its parts, and what it means.
use Rattle.std.proofs.Common.{◌≡◌, ◌∙◌, refl, sym, ap, ℕ, Bool, true, false, List, [], ◌∷◌, ◌++◌, Option, Some, None}
use Rattle.wf_text.specs.declared.place.Place.{Place}
use Rattle.wf_text.specs.declared.rules.Refusal.{Refusal}
use Rattle.wf_text.specs.declared.rules.Rule.TheVariants.{T1}
use Rattle.wf_text.specs.Precedence.{sooner, told}
use Rattle.wf_base.specs.declared.marks.Mark.{Mark}
use Rattle.wf_base.specs.declared.widths.Width.{Width}
use Rattle.wf_ast.specs.declared.operators.Op.{Op}
use Rattle.wf_ast.specs.declared.types.Ty.{Ty}
use Rattle.wf_ast.specs.TypedTrees.{operator_kind}
use Rattle.wf_named.specs.declared.nodes.NamedCallee.{NamedCallee}
use Rattle.wf_named.specs.declared.nodes.NamedPath.{NamedPath}
use Rattle.wf_named.specs.NamedTree.{NamedExprTree, number, status, truth, path, index, slice, chain, convert, negation, NamedPartTree, NamedLinkTrees, no_link, link, NamedArgTrees, NamedCallTree, call, NamedTypeTree}
use Rattle.wf_types_rules.specs.declared.meanings.Operand.{Operand}
use Rattle.wf_types_rules.specs.declared.meanings.PlacedMeaning.{PlacedMeaning}
use Rattle.wf_types_rules.specs.declared.settings.Role.TheVariants as roles
use Rattle.wf_types_rules.specs.declared.settings.Setting.{Setting}
use Rattle.wf_types_rules.specs.ExprTypes.{plain_width, operands}
use Rattle.wf_types_rules.specs.Judgements.{value_of, base_value, end_value, no_flag, no_value, no_index, no_slice, wanted, meaning_of_argument, argument_value, is_argument, two_operands}
use Rattle.wf_types_rules.specs.Parts.{expression, calling, argument, placed_type, expr_parts, end_parts, links_parts, args_parts, type_parts}
use Rattle.wf_types_exprs.specs.Judged.{judged, argument_parts}
use Rattle.wf_types_exprs.specs.Found.{chain_found, conversion_found, argument_found, calling_found}
use Rattle.wf_types_exprs.specs.Paths.{path_in}
use Rattle.wf_types_exprs.proofs.JudgedLaws.{judged-none, judged-append, judged-last}
use Rattle.wf_types_exprs.proofs.ListLemmas.{path_of_expr, value_of_argument, parts_of_argument}

-- Literals, statuses and paths.
pub number_found : (s : Setting) (found : Option Refusal) (value : ℕ) (at : Place) → found ≡ judged s found (expr_parts (number value at))
unfolding judged
number_found s found value at = refl

pub status_found : (s : Setting) (found : Option Refusal) (n : ℕ) (at : Place) → found ≡ judged s found (expr_parts (status n at))
unfolding judged
status_found s found n at = refl

pub truth_found : (s : Setting) (found : Option Refusal) (value : Bool) (at : Place) → found ≡ judged s found (expr_parts (truth value at))
unfolding judged
truth_found s found value at = refl

pub path_found : (s : Setting) (found : Option Refusal) (p : NamedPath) → sooner found (told T1 (no_value (base_value s p))) ≡ judged s found (expr_parts (path p))
unfolding judged
path_found s found p = refl

-- An element.
pub index_found : (s : Setting) (found before : Option Refusal) (base : NamedPath) (i : NamedExprTree) (at : Place) (b v : PlacedMeaning) → b ≡ base_value s base → v ≡ value_of s i
    → before ≡ judged s found (expr_parts i) → sooner before (told T1 (no_index b v)) ≡ judged s found (expr_parts (index base i at))
unfolding judged
index_found s found before base i at b v same value e =
    rw (same, value) (ap (λ f. judged s f (expression (index base i at) ∷ [])) e ∙ judged-last s found (expression (index base i at)) (expr_parts i))

-- A slice.
pub slice_found : (s : Setting) (found before : Option Refusal) (base : NamedPath) (from to : NamedPartTree) (at : Place) (b : PlacedMeaning) (m n : Option PlacedMeaning) → b ≡ base_value s base
    → m ≡ end_value s from → n ≡ end_value s to → before ≡ judged s found (end_parts from ++ end_parts to)
    → sooner before (told T1 (no_slice b m n)) ≡ judged s found (expr_parts (slice base from to at))
unfolding judged
slice_found s found before base from to at b m n same first last e =
    rw (same, first, last) (ap (λ f. judged s f (expression (slice base from to at) ∷ [])) e
    ∙ judged-last s found (expression (slice base from to at)) (end_parts from ++ end_parts to))

-- A chain.
pub chain_judged : (s : Setting) (found before : Option Refusal) (op : Op) (first : NamedExprTree) (links : NamedLinkTrees) (at : Place) (os : Option (List Operand))
    → os ≡ operands s first links → before ≡ judged s found (expr_parts first ++ links_parts links) → chain_found (operator_kind op) os at before ≡ judged s found (expr_parts (chain op first links at))
unfolding judged
chain_judged s found before op first links at os same e =
    rw same (ap (λ f. judged s f (expression (chain op first links at) ∷ [])) e ∙ judged-last s found (expression (chain op first links at)) (expr_parts first ++ links_parts links))

pub pair_judged : (s : Setting) (found mid before : Option Refusal) (op : Op) (first second : NamedExprTree) (sign at : Place) (a b : PlacedMeaning) → a ≡ value_of s first → b ≡ value_of s second
    → mid ≡ judged s found (expr_parts first) → before ≡ judged s mid (expr_parts second)
    → chain_found (operator_kind op) (two_operands a b) at before ≡ judged s found (expr_parts (chain op first (link sign second no_link) at))
pair_judged s found mid before op first second sign at a b left right g h =
    let links = link sign second no_link in
    let all : before ≡ judged s found (expr_parts first ++ links_parts links) =
    h ∙ ap (λ f. judged s f (expr_parts second)) g ∙ judged-none s (judged s (judged s found (expr_parts first)) (expr_parts second))
    ∙ sym (judged-append s (judged s found (expr_parts first)) (expr_parts second) []) ∙ sym (judged-append s found (expr_parts first) (expr_parts second ++ [])) in
    let os : two_operands a b ≡ operands s first links = ap (λ v. two_operands v b) left ∙ ap (two_operands (value_of s first)) right in
    chain_judged s found before op first links at (two_operands a b) os all

-- A conversion.
pub conversion_judged : (s : Setting) (found before : Option Refusal) (e : NamedExprTree) (t : NamedTypeTree) (at : Place) (v : PlacedMeaning) (plain : Option Width) → v ≡ value_of s e → plain ≡ plain_width t
    → before ≡ judged s found (placed_type roles.Conversion t ∷ (expr_parts e ++ type_parts t)) → conversion_found v plain at before ≡ judged s found (expr_parts (convert e t at))
unfolding judged
conversion_judged s found before e t at v plain value width h =
    rw (value, width) (ap (λ f. judged s f (expression (convert e t at) ∷ [])) h ∙ judged-last s found (expression (convert e t at)) (placed_type roles.Conversion t ∷ (expr_parts e ++ type_parts t)))

-- A `not`.
pub negation_found : (s : Setting) (found before : Option Refusal) (e : NamedExprTree) (at : Place) (v : PlacedMeaning) → v ≡ value_of s e → before ≡ judged s found (expr_parts e)
    → sooner before (told T1 (no_flag v)) ≡ judged s found (expr_parts (negation e at))
unfolding judged
negation_found s found before e at v value h =
    rw value (ap (λ f. judged s f (expression (negation e at) ∷ [])) h ∙ judged-last s found (expression (negation e at)) (expr_parts e))

-- A call, and its arguments.
call_judged : (s : Setting) (found : Option Refusal) (inside : Bool) (c : NamedCallTree) → calling_found s inside c found ≡ judged s found (calling inside c ∷ [])
unfolding judged
call_judged s found true (call callee at mark args) = refl
call_judged s found false (call callee at mark args) = refl

pub call_found : (s : Setting) (found all : Option Refusal) (inside : Bool) (callee : NamedCallee) (at : Place) (mark : Mark) (args : NamedArgTrees)
    → all ≡ judged s (calling_found s inside (call callee at mark args) found) (args_parts callee 0 args)
    → all ≡ judged s found (calling inside (call callee at mark args) ∷ args_parts callee 0 args)
call_found s found all inside callee at mark args e =
    e ∙ ap (λ f. judged s f (args_parts callee 0 args)) (call_judged s found inside (call callee at mark args))
    ∙ sym (judged-append s found (calling inside (call callee at mark args) ∷ []) (args_parts callee 0 args))

-- An argument.
argument_judged : (s : Setting) (found before : Option Refusal) (callee : NamedCallee) (n : ℕ) (e : NamedExprTree) → before ≡ judged s found (expr_parts e)
    → argument_found (wanted s callee n) (argument_value s e) before ≡ judged s found (argument callee n e ∷ expr_parts e)
unfolding judged
argument_judged s found before callee n e h =
    ap (λ f. judged s f (argument callee n e ∷ [])) h ∙ judged-last s found (argument callee n e) (expr_parts e)

pub argument_behind : (s : Setting) (found before : Option Refusal) (callee : NamedCallee) (n : ℕ) (e : NamedExprTree) (ty : Option Ty) (v : PlacedMeaning) → path_in e ≡ None → ty ≡ wanted s callee n
    → v ≡ value_of s e → before ≡ judged s found (expr_parts e) → argument_found ty v before ≡ judged s found (argument_parts callee n e)
argument_behind s found before callee n e ty v none type value h =
    ap (λ t. argument_found t v before) type ∙ ap (λ w. argument_found (wanted s callee n) w before) (value ∙ value_of_argument s e none)
    ∙ argument_judged s found before callee n e h ∙ sym (ap (judged s found) (parts_of_argument callee n e none))

-- A path that is handed on.
argument_alone : (s : Setting) (found : Option Refusal) (callee : NamedCallee) (n : ℕ) (p : NamedPath)
    → argument_found (wanted s callee n) (base_value s p) found ≡ judged s found (argument_parts callee n (path p))
unfolding judged
argument_alone s found callee n p = refl

pub path_handed : (s : Setting) (found : Option Refusal) (callee : NamedCallee) (n : ℕ) (e : NamedExprTree) (p : NamedPath) (ty : Option Ty) (v : PlacedMeaning) → path_in e ≡ Some p → ty ≡ wanted s callee n
    → v ≡ base_value s p → argument_found ty v found ≡ judged s found (argument_parts callee n e)
path_handed s found callee n e p ty v some type value =
    ap (λ t. argument_found t v found) type ∙ ap (λ w. argument_found (wanted s callee n) w found) value ∙ argument_alone s found callee n p
    ∙ sym (ap (λ x. judged s found (argument_parts callee n x)) (path_of_expr e p some))

pub argument_fits : (s : Setting) (callee : NamedCallee) (n : ℕ) (e : NamedExprTree) (ty : Option Ty) (v : PlacedMeaning) → path_in e ≡ None → ty ≡ wanted s callee n → v ≡ value_of s e
    → is_argument ty v.of ≡ is_argument (wanted s callee n) (meaning_of_argument s e)
argument_fits s callee n e ty v none type value =
    ap (λ t. is_argument t v.of) type ∙ ap (λ (w : PlacedMeaning). is_argument (wanted s callee n) w.of) (value ∙ value_of_argument s e none)
