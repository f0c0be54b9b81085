-- What a statement calls stands before its function.
use Rattle.std.proofs.Common.{◌≡◌, ◌<◌, ℕ, zero, suc, List, [], ◌∷◌, take, map, Option, refl, subst, arith}
use Rattle.std.specs.Prelude.{bytes_eq}
use Rattle.std.proofs.lemmas.Slice.Eq.{bytes_eq-Decides}
use Rattle.c_text.specs.CTree.{ExprTree, Args, call, ItemTree, function_item}
use Rattle.c_meaning.specs.CTypes.{Function, CScope, functions_of}
use Rattle.c_meaning.specs.CStep.{Callee, own, callee_of}
use Rattle.c_meaning.specs.UnitForm.{item_name}
use Rattle.c_form_stmts.specs.Lines.{line}
use Rattle.c_form_laws.specs.Places.{At, Has}
use Rattle.c_form_laws.specs.StatementRules.{MayCall}
use Rattle.c_form_laws.specs.UnitRules.{KeepsFunction, KeepsOwn}
use Rattle.c_form_laws.specs.CallOrder.{IsFunctionAt, CallsGoBack}
use Rattle.c_form_laws.proofs.NameLaws.{find_is, function_before}

-- What stands among the first items stands there in the whole.
front_at : (items : List ItemTree) (i j : ℕ) (item : ItemTree) → At (take i items) j item → (j < i) × At items j item
front_at [] zero j item e = absurd (cc e)
front_at [] (suc i) j item e = absurd (cc e)
front_at (x ∷ items) zero j item e = absurd (cc e)
front_at (x ∷ items) (suc i) zero item e = (omega arith, e)
front_at (x ∷ items) (suc i) (suc j) item e = let k = front_at items i j item e in (let l = k.0 in omega (arith, l), k.1)

abbrev item_of : Function → ItemTree
item_of f = function_item f.linkage f.result_type f.name f.params f.locals f.body

kept_function : (before : List ItemTree) (all : List (List ℕ)) (f : Function) → KeepsOwn before all (item_of f) → KeepsFunction before all f.linkage f.result_type f.params f.locals f.body
kept_function [] all f h = absurd (cc h)
kept_function (x ∷ before) all f h = h.2

called_before : (items : List ItemTree) (i : ℕ) (scope : CScope) → scope.functions ≡ functions_of (take i items) → (target : Option ExprTree) (name : List ℕ) (given : Args) (callee : Callee) → callee ≡ own → MayCall callee scope target name given
    → (j : ℕ) × (callee : Function) × (j < i) × IsFunctionAt items j callee × (callee.name ≡ name)
called_before items i scope there target name given callee is h =
    let k = subst (λ (c : Callee). MayCall c scope target name given) is h in
    let it = find_is (λ (f : Function). bytes_eq f.name name) scope.functions k.0 k.1 in
    let among : Has (functions_of (take i items)) k.0 = subst (λ (fs : List Function). Has fs k.0) there it.0 in
    let has = function_before (take i items) among.0 k.0 among.1 in
    let at = front_at items i has.0 (item_of k.0) has.1 in
    (has.0, k.0, at.0, at.1, (bytes_eq-Decides k.0.name name).0 it.1)

pub calls_go_back : CallsGoBack
calls_go_back p items kept i f there name calls =
    let own_rules = (kept.each i (item_of f) there).own in
    let rules = kept_function (take i items) (map item_name items) f own_rules in
    called_before items i _ refl calls.2 name calls.3 (callee_of name) calls.6 (rules.statements_kept calls.0 (line calls.1 (call calls.2 name calls.3 calls.4)) calls.5)
