-- Names, one after the other.
use Rattle.std.proofs.Common.{◌≡◌, ℕ, Bool, true, false, not, ◌&&◌, ◌||◌, List, [], ◌∷◌, ◌++◌, map, is_none, Result, Ok, Err, IfOk, refl, sym, ◌∙◌, ap, append_assoc}
use Rattle.std.specs.List.{list_all}
use Rattle.std.specs.Str.{bytes_eq}
use Rattle.std.proofs.lemmas.List.{append-nil}
use Rattle.std.proofs.lemmas.List.Folds.{list_any-append}
use Rattle.wf_text.specs.declared.faults.NoMemory.{NoMemory}
use Rattle.c_text.specs.declared.nodes.CType.{CType}
use Rattle.c_text.specs.CTree.{ParamTree, LocalTree}
use Rattle.c_meaning.specs.CTypes.{CScope, local_name, is_known}
use Rattle.c_meaning.specs.UnitForm.{is_among, all_distinct, is_library, formed_initial, formed_locals}
use Rattle.c_form_exprs.specs.Front.{entry_param}
use Rattle.c_form_exprs.specs.Tables.{named}
use Rattle.c_form_exprs.proofs.FrontLemmas.{bytes_eq-swap}
use Rattle.c_form_stmts.specs.Names.{are_new, is_own, is_addable, with_name, params_fit, is_local, locals_fit}

-- A table has the names of its entries.
pub named_among : {V : Type 0} (es : List (List ℕ × V)) (q : List ℕ) → is_none (named es q) ≡ not (is_among (map (λ e. e.0) es) q)
named_among [] q = refl
named_among {V} (e ∷ es) q = by (bytes_eq q e.0) refl (named_among es q)
  where
    by : (b : Bool) → bytes_eq q e.0 ≡ b → is_none (named es q) ≡ not (is_among (map (λ e. e.0) es) q) → is_none (named (e ∷ es) q) ≡ not (is_among (map (λ e. e.0) (e ∷ es)) q)
    by true is rest = rw is refl
    by false is rest = rw is rest

pub entry_names : (names : List (List ℕ)) (es : List (List ℕ × CType)) → map (λ it. it.name) (map (entry_param names) es) ≡ map (λ e. e.0) es
entry_names names [] = refl
entry_names names (e ∷ es) = ap (λ xs. e.0 ∷ xs) (entry_names names es)

-- Names that are new are all different and none that was seen.
not_or : (a b : Bool) → not (a || b) ≡ (not a && not b)
not_or true b = refl
not_or false b = refl

or_false : (a : Bool) → (a || false) ≡ a
or_false true = refl
or_false false = refl

among_end : (seen : List (List ℕ)) (n m : List ℕ) → not (is_among (seen ++ n ∷ []) m) ≡ (not (is_among seen m) && not (bytes_eq n m))
among_end seen n m = ap not (list_any-append (bytes_eq m) seen (n ∷ [])) ∙ (ap (λ b. not (is_among seen m || b)) (or_false (bytes_eq m n)) ∙ (not_or (is_among seen m) (bytes_eq m n) ∙ ap (λ b. not (is_among seen m) && not b) (bytes_eq-swap m n)))

and_four : (a b c d : Bool) → ((a && b) && (c && d)) ≡ ((a && c) && (b && d))
and_four true true c d = refl
and_four true false true d = refl
and_four true false false d = refl
and_four false b c d = refl

pub all_and : {X : Type 0} (p q r : X → Bool) → ((x : X) → r x ≡ (p x && q x)) → (xs : List X) → list_all r xs ≡ (list_all p xs && list_all q xs)
all_and p q r is [] = refl
all_and p q r is (x ∷ xs) = ap (λ b. b && list_all r xs) (is x) ∙ (ap (λ b. (p x && q x) && b) (all_and p q r is xs) ∙ and_four (p x) (q x) (list_all p xs) (list_all q xs))

none_among : (n : List ℕ) (ns : List (List ℕ)) → list_all (λ m. not (bytes_eq n m)) ns ≡ not (is_among ns n)
none_among n [] = refl
none_among n (m ∷ ns) = ap (λ b. not (bytes_eq n m) && b) (none_among n ns) ∙ sym (not_or (bytes_eq n m) (is_among ns n))

new_step : (a n d s : Bool) → (a && (d && (s && n))) ≡ ((n && d) && (a && s))
new_step true true true true = refl
new_step true true true false = refl
new_step true true false s = refl
new_step true false true true = refl
new_step true false true false = refl
new_step true false false s = refl
new_step false true true s = refl
new_step false true false s = refl
new_step false false d s = refl

pub new_names : (seen ns : List (List ℕ)) → are_new seen ns ≡ (all_distinct ns && list_all (λ m. not (is_among seen m)) ns)
new_names seen [] = refl
new_names seen (n ∷ ns) =
    let rest : list_all (λ m. not (is_among (seen ++ n ∷ []) m)) ns ≡ (list_all (λ m. not (is_among seen m)) ns && not (is_among ns n)) = all_and (λ m. not (is_among seen m)) (λ m. not (bytes_eq n m)) (λ m. not (is_among (seen ++ n ∷ []) m)) (among_end seen n) ns ∙ ap (λ b. list_all (λ m. not (is_among seen m)) ns && b) (none_among n ns) in
    ap (λ b. not (is_among seen n) && b) (new_names (seen ++ n ∷ []) ns ∙ ap (λ b. all_distinct ns && b) rest) ∙ new_step (not (is_among seen n)) (not (is_among ns n)) (all_distinct ns) (list_all (λ m. not (is_among seen m)) ns)

all_true : (ns : List (List ℕ)) → list_all (λ m. not (is_among [] m)) ns ≡ true
all_true [] = refl
all_true (n ∷ ns) = all_true ns

and_true : (a : Bool) → (a && true) ≡ a
and_true true = refl
and_true false = refl

pub new_from_none : (ns : List (List ℕ)) → are_new [] ns ≡ all_distinct ns
new_from_none ns = new_names [] ns ∙ (ap (λ b. all_distinct ns && b) (all_true ns) ∙ and_true (all_distinct ns))

and_in : (a b c : Bool) → (a && (b && c)) ≡ ((a && b) && c)
and_in true b c = refl
and_in false b c = refl

pub new_append : (seen xs ys : List (List ℕ)) → are_new seen (xs ++ ys) ≡ (are_new seen xs && are_new (seen ++ xs) ys)
new_append seen [] ys = ap (λ zs. are_new zs ys) (sym (append-nil seen))
new_append seen (x ∷ xs) ys = ap (λ b. not (is_among seen x) && b) (new_append (seen ++ x ∷ []) xs ys ∙ ap (λ zs. are_new (seen ++ x ∷ []) xs && are_new zs ys) (append_assoc seen (x ∷ []) xs)) ∙ and_in (not (is_among seen x)) (are_new (seen ++ x ∷ []) xs) (are_new (seen ++ x ∷ xs) ys)

-- The parameters of a function, and its locals, by what each asks.
abbrev pub names_in : CScope → List (List ℕ)
names_in scope = map (λ it. it.name) scope.names

names_end : (ps : List ParamTree) (p : ParamTree) → map (λ (it : ParamTree). it.name) (ps ++ p ∷ []) ≡ map (λ it. it.name) ps ++ p.name ∷ []
names_end [] p = refl
names_end (x ∷ ps) p = ap (λ xs. x.name ∷ xs) (names_end ps p)

params_step : (k o n k' o' n' : Bool) → ((k && (o && n)) && (k' && (o' && n'))) ≡ ((k && k') && ((o && o') && (n && n')))
params_step true true true k' o' n' = refl
params_step true true false true true n' = refl
params_step true true false true false n' = refl
params_step true true false false o' n' = refl
params_step true false n true o' n' = refl
params_step true false n false o' n' = refl
params_step false o n k' o' n' = refl

pub params_by : (taken : List ℕ → Bool) (scope : CScope) (ps : List ParamTree) → params_fit taken scope ps ≡ (list_all (λ p. is_known scope.structs p.kind) ps && (list_all (λ p. is_own taken p.name) ps && are_new (names_in scope) (map (λ it. it.name) ps)))
params_by taken scope [] = refl
params_by taken scope (p ∷ ps) =
    ap (λ b. is_addable taken scope p && b) (params_by taken (with_name scope p) ps ∙ ap (λ xs. list_all (λ q. is_known scope.structs q.kind) ps && (list_all (λ q. is_own taken q.name) ps && are_new xs (map (λ it. it.name) ps))) (names_end scope.names p))
    ∙ params_step (is_known scope.structs p.kind) (is_own taken p.name) (not (is_among (names_in scope) p.name)) (list_all (λ q. is_known scope.structs q.kind) ps) (list_all (λ q. is_own taken q.name) ps) (are_new (names_in scope ++ p.name ∷ []) (map (λ it. it.name) ps))

locals_step : (i k o n f o' n' : Bool) → ((i && (k && (o && n))) && (f && (o' && n'))) ≡ ((k && (i && f)) && ((o && o') && (n && n')))
locals_step true true true true f o' n' = refl
locals_step true true true false true true n' = refl
locals_step true true true false true false n' = refl
locals_step true true true false false o' n' = refl
locals_step true true false n true o' n' = refl
locals_step true true false n false o' n' = refl
locals_step true false o n f o' n' = refl
locals_step false true o n f o' n' = refl
locals_step false false o n f o' n' = refl

pub locals_by : (taken : List ℕ → Bool) (scope : CScope) (ls : List LocalTree) → locals_fit taken scope ls ≡ (formed_locals scope ls && (list_all (λ p. is_own taken p.name) (map local_name ls) && are_new (names_in scope) (map (λ it. it.name) (map local_name ls))))
locals_by taken scope [] = refl
locals_by taken scope (l ∷ ls) =
    ap (λ b. is_local taken scope l && b) (locals_by taken (with_name scope (local_name l)) ls ∙ ap (λ xs. formed_locals (with_name scope (local_name l)) ls && (list_all (λ q. is_own taken q.name) (map local_name ls) && are_new xs (map (λ it. it.name) (map local_name ls)))) (names_end scope.names (local_name l)))
    ∙ locals_step (formed_initial scope l.kind l.initial) (is_known scope.structs l.kind) (is_own taken l.name) (not (is_among (names_in scope) l.name)) (formed_locals (with_name scope (local_name l)) ls) (list_all (λ q. is_own taken q.name) (map local_name ls)) (are_new (names_in scope ++ l.name ∷ []) (map (λ it. it.name) (map local_name ls)))

-- A name is added where its type is known and it is neither taken nor there.
pub declared_fits : (r : Result Bool NoMemory) (taken : List ℕ → Bool) (scope : CScope) (names : List (List ℕ)) (es : List (List ℕ × CType)) (p : ParamTree) → scope.names ≡ map (entry_param names) es → IfOk r (λ fresh. fresh ≡ is_none (named es p.name)) → is_known scope.structs p.kind ≡ true → taken p.name ≡ false → is_library p.name ≡ false → IfOk r (λ fits. fits ≡ is_addable taken scope p)
declared_fits (Err fault) taken scope names es p is fresh known own library = tt
declared_fits (Ok fits) taken scope names es p is fresh known own library =
    let among : not (is_among (map (λ it. it.name) scope.names) p.name) ≡ is_none (named es p.name) = ap (λ (ps : List ParamTree). not (is_among (map (λ it. it.name) ps) p.name)) is ∙ (ap (λ ns. not (is_among ns p.name)) (entry_names names es) ∙ sym (named_among es p.name)) in
    rw (known, own, library, among) fresh
