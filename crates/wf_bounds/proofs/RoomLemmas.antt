-- A condition that joins no others tells at most one fact, for which there is room in a list that isn't full.
use Rattle.std.proofs.Common.{◌≡◌, ℕ, ◌<◌, Bool, true, false, not, List, [], ◌∷◌, ◌++◌, length, map, Option, Some, None, refl, sym, subst, arith}
use Rattle.std.specs.Prelude.{if◌then◌else◌}
use Rattle.std.proofs.lemmas.List.{length-map, length-append}
use Rattle.std.proofs.lemmas.Bool.Decides.{nat_tests}
use Rattle.wf_text.specs.declared.place.Place.{Place}
use Rattle.wf_base.specs.declared.base_methods.BaseSig.{BaseSig}
use Rattle.wf_base.specs.declared.base_methods.BaseSig.TheVariants as sigs
use Rattle.wf_ast.specs.declared.numbers.ExprId.{ExprId}
use Rattle.wf_ast.specs.declared.typed_code.Expr.{Expr}
use Rattle.wf_ast.specs.declared.typed_code.Expr.TheVariants as exprs
use Rattle.wf_ast.specs.declared.types.Ty.{Ty}
use Rattle.wf_ast.specs.declared.types.Ty.TheVariants as types
use Rattle.wf_ast.specs.declared.typed_nodes.TypedNodes.{TypedNodes}
use Rattle.wf_facts_exprs.specs.declared.facts.Fact.{Fact}
use Rattle.wf_ast.specs.TypedTree.{Path, arg, Order, equal, differs, NumTree, number, CondTree, truth, compare, junction, negation, ValueTree, state}
use Rattle.wf_ast.specs.TypedTrees.{OperatorKind, arithmetic, ordering, joining, operator_kind, cond_in, named, comparison, chain_of, answer_of, made, made_or_number}
use Rattle.wf_ast.specs.OperatorForms.{is_joining}
use Rattle.wf_facts_exprs.specs.Claims.{Claim, claim_in, claims_in, is_among, turned}
use Rattle.wf_facts.specs.FactLists.{added, all_added, with_condition}
use Rattle.wf_bounds.specs.WalkAnswers.{keeps_limit}
use Rattle.wf_bounds.specs.WalkNodes.{joins_none, joins_none_in}

-- ---- the condition of a node

named-alone : (at : Place) (ty : Ty) (p : Path) → joins_none (cond_in (named at ty p)) ≡ true
named-alone at (types.Num width lo hi) p = refl
named-alone at types.Flag p = refl
named-alone at types.Status p = refl
named-alone at (types.Slice width) p = refl
named-alone at (types.Array width lo hi n) p = refl
named-alone at types.Reader (arg n) = refl
named-alone at types.Reader p = refl
named-alone at types.Writer (arg n) = refl
named-alone at types.Writer p = refl
named-alone at (types.Part s) p = refl

comparison-alone : (at sign : Place) (op : Order) (a b : ValueTree) → joins_none (cond_in (comparison at sign op a b)) ≡ true
comparison-alone at sign equal (state a) b = refl
comparison-alone at sign differs (state a) b = refl
comparison-alone at sign op a b = refl

chain-alone : (at : Place) (signs : List Place) (ty : Ty) (sort : OperatorKind) (ts : List ValueTree) → not (is_joining sort) ≡ true → joins_none (cond_in (chain_of at signs ty sort ts)) ≡ true
chain-alone at signs ty (arithmetic op) (t ∷ ts) h = refl
chain-alone at signs ty (joining all) ts h = absurd (cc (h))
chain-alone at signs ty (ordering op) (t ∷ u ∷ ts) h = comparison-alone at _ op t u
chain-alone at signs ty sort ts h = refl

answer-alone : (at : Place) (sig : BaseSig) (t : ValueTree) → joins_none (cond_in (answer_of at sig t)) ≡ true
answer-alone at sigs.ReaderLength t = refl
answer-alone at sigs.ReaderIsClosed t = refl
answer-alone at sigs.IsOk t = refl
answer-alone at sigs.IsNote t = refl
answer-alone at sigs.IsSuspension t = refl
answer-alone at sigs.IsError t = refl
answer-alone at sig t = refl

made-alone : (look : ExprId → ValueTree) (at : Place) (signs : List Place) (ty : Ty) (x : Expr) → joins_none_in x ≡ true → joins_none (cond_in (made look at signs ty x)) ≡ true
made-alone look at signs ty (exprs.Local x) h = named-alone at ty _
made-alone look at signs ty (exprs.Field x) h = named-alone at ty _
made-alone look at signs ty (exprs.Arg x) h = named-alone at ty _
made-alone look at signs ty (exprs.Chain op parts) h = chain-alone at signs ty (operator_kind op) (map look parts) h
made-alone look at signs ty (exprs.Not of) h = absurd (cc (h))
made-alone look at signs ty (exprs.Base on sig) h = answer-alone at sig (look on)
made-alone look at signs ty x h = refl

pub node-alone : (look : ExprId → ValueTree) (at : Place) (signs : List Place) (ty : Ty) (n : Option ℕ) (x : Expr) (t : ValueTree) → t ≡ made_or_number look at signs ty n x → joins_none_in x ≡ true → joins_none (cond_in t) ≡ true
node-alone look at signs ty n x t is h = let P : ValueTree → Type 0 = λ t. joins_none (cond_in t) ≡ true in subst P (sym is) (by n)
  where
    by : (n : Option ℕ) → joins_none (cond_in (made_or_number look at signs ty n x)) ≡ true
    by (Some v) = refl
    by None = made-alone look at signs ty x h

-- ---- room

none-room : (fs : List Claim) → length fs < 512 → keeps_limit fs ≡ true
none-room fs h = grind (arith, nat_tests, h)

added-room : (fs : List Claim) (f : Claim) → length fs < 512 → keeps_limit (added fs f) ≡ true
added-room fs f h = by (is_among fs f)
  where
    by : (b : Bool) → keeps_limit (if b then fs else fs ++ f ∷ []) ≡ true
    by true = none-room fs h
    by false = let e = length-append fs (f ∷ []) in grind (arith, nat_tests, h, e)

turned-room : (fs : List Claim) (a : NumTree) (op : Order) (b : NumTree) → length fs < 512 → keeps_limit (all_added fs (turned a op b ∷ [])) ≡ true
turned-room fs (number at n) op b h = added-room fs _ h
turned-room fs a op b h = added-room fs _ h

pub facts-room : (fs : List Claim) (c : CondTree) → joins_none c ≡ true → length fs < 512 → keeps_limit (with_condition fs c true) ≡ true
facts-room fs (truth at true) j h = none-room fs h
facts-room fs (truth at false) j h = added-room fs _ h
facts-room fs (compare at sign a op b) j h = turned-room fs a op b h
facts-room fs (junction at all joined a b) j h = absurd (cc (j))
facts-room fs (negation at a) j h = absurd (cc (j))
facts-room fs c j h = added-room fs _ h

pub room-left : (nodes : TypedNodes) (fs : List Fact) (c : CondTree) → joins_none c ≡ true → length fs < 512 → true ≡ keeps_limit (with_condition (claims_in nodes fs) c true)
room-left nodes fs c j h = let e = length-map fs (claim_in nodes) in sym (facts-room (claims_in nodes fs) c j (omega (arith, e, h)))
