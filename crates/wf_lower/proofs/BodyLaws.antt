-- The statements of a body with the numbers of their points, and the names that its code reads.
use Rattle.std.proofs.Common.{◌≡◌, ◌+◌, ◌<◌, ◌≤◌, ℕ, zero, suc, Bool, true, false, if◌then◌else◌, Some, Result, Ok, Err, IfOk, List, [], ◌∷◌, ◌++◌, drop, get_or, length, map, refl, sym, ◌∙◌, ap, subst, arith}
use Rattle.std.specs.Prelude.{slice_get, unwrap_or, ⊤}
use Rattle.wf_text.specs.declared.faults.NoMemory.{NoMemory}
use Rattle.wf_ast.specs.declared.typed_code.Block as typed_code
use Rattle.wf_ast.specs.TypedInvariant.{IsTyped}
use Rattle.wf_ast.specs.TypedTree.{Simple, Site, Block, end, plain, choose, loop}
use Rattle.wf_meaning.specs.Remaining.{is_point, points_in, number_of}
use Rattle.wf_points.proofs.NumberLemmas.{each_point, in_order}
use Rattle.c_text.specs.declared.ids.CStmtId.{CStmtId}
use Rattle.c_text.specs.declared.nodes.CLocal.{CLocal}
use Rattle.c_text.specs.declared.nodes.CParam.{CParam}
use Rattle.c_text.specs.CFits.{HasLocals, HasParams}
use Rattle.c_text.specs.CGrammar.{is_finish}
use Rattle.c_text.specs.CNodes.{Nodes, bytes_at, code_of, expr_of, local_tree}
use Rattle.c_text.specs.CTree.{ExprTree, variable, ParamTree, LocalTree, Code, finish, nested, empty, assign, call, jump, branch, repeat, select, leave, case_label, default_label, name_label}
use Rattle.wf_exprs.specs.Exprs.{lowered_cond}
use Rattle.wf_exprs.specs.Grown.{Grows, HasCode, HasExpr}
use Rattle.wf_exprs.specs.Reads.{code_reads}
use Rattle.wf_exprs_nodes.specs.Marks.{AreThose}
use Rattle.wf_lower_stmts.proofs.HereLaws.{code_here}
use Rattle.wf_lower_stmts.specs.BodyNodes.{BodyTree, form_in, points_by}
use Rattle.wf_lower_stmts.specs.Forms.{Form, when, when_some}
use Rattle.wf_lower_stmts.specs.Lower.{lower, other_kind, again_here, behind_here}
use Rattle.wf_lower_stmts.specs.Statements.{lower_point, lower_plain}
use Rattle.wf_lower.specs.Bodies.{touched}
use Rattle.wf_lower.specs.Made.{CodeReads}
use Rattle.wf_lower.specs.Methods.{IsBodyOf, local_names, names_in, param_names}
use Rattle.wf_lower.proofs.LocalLaws.{first_of, second_of}

-- Two numberings that agree at these points.
abbrev Alike : (p q : Site → ℕ) → List Site → Type 0
Alike p q [] = ⊤
Alike p q (s ∷ ss) = (p s ≡ q s) × Alike p q ss

alike_left : (p q : Site → ℕ) (xs ys : List Site) → Alike p q (xs ++ ys) → Alike p q xs
alike_left p q [] ys h = tt
alike_left p q (x ∷ xs) ys h = (h.0, alike_left p q xs ys h.1)

alike_right : (p q : Site → ℕ) (xs ys : List Site) → Alike p q (xs ++ ys) → Alike p q ys
alike_right p q [] ys h = h
alike_right p q (x ∷ xs) ys h = alike_right p q xs ys h.1

alike_by : (p q : Site → ℕ) (xs : List Site) → ((i : ℕ) (s : Site) → slice_get xs i ≡ Some s → p s ≡ q s) → Alike p q xs
alike_by p q [] h = tt
alike_by p q (x ∷ xs) h = (h 0 x refl, alike_by p q xs (λ i s e. h (suc i) s e))

-- Lowering asks for the numbers of points alone.
module _ (f : Form) (p q : Site → ℕ) where
  same_plain : (site : Site) (s : Simple) (ss : List Site) (t : Bool) (r r' : Code) → (Alike p q ss → r ≡ r') → Alike p q (if t then site ∷ ss else ss)
      → (if t then lower_point f (p site) s r else lower_plain f s r) ≡ (if t then lower_point f (q site) s r' else lower_plain f s r')
  same_plain site s ss true r r' e h = ap (λ k. lower_point f k s r) h.0 ∙ ap (lower_point f (q site) s) (e h.1)
  same_plain site s ss false r r' e h = ap (lower_plain f s) (e h)

  same_lower : (b : Block) (t : Code) → Alike p q (points_in b) → lower f p b t ≡ lower f q b t
  same_lower end t h = refl
  same_lower (plain site s rest) t h = same_plain site s (points_in rest) (is_point s) (lower f p rest t) (lower f q rest t) (same_lower rest t) h
  same_lower (choose site chained c a b rest) t h =
      let first = same_lower a finish (alike_left p q (points_in a) (points_in b ++ points_in rest) h) in
      let others = alike_right p q (points_in a) (points_in b ++ points_in rest) h in
      let second = same_lower b finish (alike_left p q (points_in b) (points_in rest) others) in
      let third = same_lower rest t (alike_right p q (points_in b) (points_in rest) others) in
      ap (λ x. branch (lowered_cond f.names c) x (other_kind b) (lower f p b finish) (lower f p rest t)) first
      ∙ ap (λ x. branch (lowered_cond f.names c) (lower f q a finish) (other_kind b) x (lower f p rest t)) second
      ∙ ap (branch (lowered_cond f.names c) (lower f q a finish) (other_kind b) (lower f q b finish)) third
  same_lower (loop site head body rest) t h =
      let first = same_lower body (again_here site body) (alike_left p q (points_in body) (points_in rest) h) in
      let second = same_lower rest t (alike_right p q (points_in body) (points_in rest) h) in
      ap (λ x. repeat (lowered_cond f.names head.cond) x (behind_here site body (lower f p rest t))) first
      ∙ ap (λ x. repeat (lowered_cond f.names head.cond) (lower f q body (again_here site body)) (behind_here site body x)) second

-- The table has for each point of the body its number there.
table_number : (b : BodyTree) (body : typed_code.Block) → IsTyped b.nodes → IsBodyOf b body → (i : ℕ) (site : Site) → slice_get (points_in (form_in b).method.body) i ≡ Some site
    → points_by b.numbers site ≡ number_of (form_in b).method.body site
table_number b body typed of i site e =
    let m = (form_in b).method in
    let there = of.numbers site.number ∙ each_point b.nodes of.number i m site typed of.known e in
    ap (λ n. unwrap_or n 0) there ∙ sym (in_order b.nodes typed of.number m of.known i site e)

pub numbered_lower : (b : BodyTree) (body : typed_code.Block) → IsTyped b.nodes → IsBodyOf b body → (t : Code)
    → lower (form_in b) (points_by b.numbers) (form_in b).method.body t ≡ lower (form_in b) (number_of (form_in b).method.body) (form_in b).method.body t
numbered_lower b body typed of t =
    let m = (form_in b).method in
    same_lower (form_in b) (points_by b.numbers) (number_of m.body) m.body t (alike_by (points_by b.numbers) (number_of m.body) (points_in m.body) (table_number b body typed of))

-- What is done where a block isn't empty.
pub when_empty : (test : ExprTree) (body rest : Code) → is_finish body ≡ true → when_some test body rest ≡ rest
when_empty test finish rest h = refl
when_empty test (nested inner more) rest h = absurd (cc h)
when_empty test (empty more) rest h = absurd (cc h)
when_empty test (assign target value more) rest h = absurd (cc h)
when_empty test (call target function given more) rest h = absurd (cc h)
when_empty test (jump label more) rest h = absurd (cc h)
when_empty test (branch e body kind other more) rest h = absurd (cc h)
when_empty test (repeat e body more) rest h = absurd (cc h)
when_empty test (select e body more) rest h = absurd (cc h)
when_empty test (leave value more) rest h = absurd (cc h)
when_empty test (case_label n more) rest h = absurd (cc h)
when_empty test (default_label more) rest h = absurd (cc h)
when_empty test (name_label label more) rest h = absurd (cc h)

pub when_full : (test : ExprTree) (body rest : Code) → is_finish body ≡ false → when_some test body rest ≡ when test body rest
when_full test finish rest h = absurd (cc h)
when_full test (nested inner more) rest h = refl
when_full test (empty more) rest h = refl
when_full test (assign target value more) rest h = refl
when_full test (call target function given more) rest h = refl
when_full test (jump label more) rest h = refl
when_full test (branch e body kind other more) rest h = refl
when_full test (repeat e body more) rest h = refl
when_full test (select e body more) rest h = refl
when_full test (leave value more) rest h = refl
when_full test (case_label n more) rest h = refl
when_full test (default_label more) rest h = refl
when_full test (name_label label more) rest h = refl

-- `if` over parts that were made before it.
pub when_same : {a b : Nodes} (test : ExprTree) (e body rest : ℕ) → Grows a b → HasExpr b e test → body < length a.stmts → rest < length a.stmts
    → when (expr_of b e) (code_of b body) (code_of b rest) ≡ when test (code_of a body) (code_of a rest)
when_same {a} {b} test e body rest g made h k =
    ap (λ x. when x (code_of b body) (code_of b rest)) made.is ∙ ap (λ x. when test x (code_of b rest)) (g.stmts body h) ∙ ap (when test (code_of a body)) (g.stmts rest k)

pub touch_same : {a b c : Nodes} (name e body rest : ℕ) → Grows a b → Grows b c → HasCode b body finish → HasExpr c e (variable (bytes_at b.names name)) → name < length a.names → rest < length a.stmts
    → when (expr_of c e) (code_of c body) (code_of c rest) ≡ when (variable (bytes_at a.names name)) finish (code_of a rest)
touch_same {a} {b} {c} name e body rest g h empty_body made named there =
    ap (λ x. when x (code_of c body) (code_of c rest)) (made.is ∙ ap variable (g.names name named))
    ∙ ap (λ x. when (variable (bytes_at a.names name)) x (code_of c rest)) (h.stmts body empty_body.there ∙ empty_body.is)
    ∙ ap (when (variable (bytes_at a.names name)) finish) (h.stmts rest (g.more_stmts rest there) ∙ g.stmts rest there)

-- A name that the code reads isn't touched, and one that it doesn't read is.
pub touched_not : (a : Nodes) (flags : List Bool) (name : List ℕ) (rest : ℕ) → rest < length a.stmts
    → ((reads : List ℕ → Bool) → AreThose reads a.names flags → true ≡ reads name)
    → (code : Code) → CodeReads code a.names flags → HasCode a rest (touched (name ∷ []) code (code_of a rest))
touched_not a flags name rest there tells = λ code reads.
    code_here a (touched (name ∷ []) code (code_of a rest)) rest there (sym (first_of (code_reads name code) (code_of a rest) (when (variable name) finish (code_of a rest)) (tells (λ x. code_reads x code) reads)))

pub touched_one : (a b c d : Nodes) (flags : List Bool) (name e body rest : ℕ) (r : Result CStmtId NoMemory) → Grows a b → Grows b c → HasCode b body finish → HasExpr c e (variable (bytes_at b.names name)) → name < length a.names → rest < length a.stmts
    → ((reads : List ℕ → Bool) → AreThose reads a.names flags → false ≡ reads (bytes_at a.names name))
    → IfOk r (λ it. HasCode d it.0 (when (expr_of c e) (code_of c body) (code_of c rest)))
    → IfOk r (λ it. (code : Code) → CodeReads code a.names flags → HasCode d it.0 (touched (bytes_at a.names name ∷ []) code (code_of a rest)))
touched_one a b c d flags name e body rest (Ok it) g h empty_body made named there tells own = λ code reads.
    let x = bytes_at a.names name in
    let kept = code_of a rest in
    record {
      there = own.there;
      is = own.is ∙ touch_same name e body rest g h empty_body made named there ∙ second_of (code_reads x code) kept (when (variable x) finish kept) (tells (λ y. code_reads y code) reads);
    }
touched_one a b c d flags name e body rest (Err refused) g h empty_body made named there tells own = own

-- Names are touched one after the other.
module _ (code rest : Code) where
  pub touched_front : (k : ℕ) (xs : List (List ℕ)) (x : List ℕ) → slice_get xs k ≡ Some x → touched (drop k xs) code rest ≡ touched (x ∷ []) code (touched (drop (suc k) xs) code rest)
  touched_front k [] x h = absurd (cc h)
  touched_front zero (y ∷ xs) x h = let same : y ≡ x = cc h in ap (λ z. if code_reads z code then touched xs code rest else when (variable z) finish (touched xs code rest)) same
  touched_front (suc k) (y ∷ xs) x h = touched_front k xs x h

  pub touched_none : (k : ℕ) (xs : List (List ℕ)) → length xs ≤ k → touched (drop k xs) code rest ≡ rest
  touched_none zero [] h = refl
  touched_none (suc k) [] h = refl
  touched_none zero (x ∷ xs) h = absurd (omega (arith, h))
  touched_none (suc k) (x ∷ xs) h = touched_none k xs (omega (arith, h))

  pub touched_step : {a b : Nodes} {front it : ℕ} (xs : List (List ℕ)) (left i : ℕ) (x y : List ℕ) (own : Code) → suc i ≡ left → slice_get xs i ≡ Some x → y ≡ x → own ≡ code
      → HasCode a front (touched (drop left xs) code rest) → HasCode b it (touched (y ∷ []) own (code_of a front)) → HasCode b it (touched (drop i xs) code rest)
  touched_step {a = a} {front = front} xs left i x y own e at named same so one =
      let P : ℕ → Type 0 = λ n. HasCode a front (touched (drop n xs) code rest) in
      let next = subst P (sym e) so in
      record {
        there = one.there;
        is = one.is ∙ ap (λ n. touched (n ∷ []) own (code_of a front)) named ∙ ap (λ c. touched (x ∷ []) c (code_of a front)) same ∙ ap (touched (x ∷ []) code) next.is ∙ sym (touched_front i xs x at);
      }

-- The names of locals and of parameters.
pub local_there : (nodes : Nodes) (ls : List CLocal) (i : ℕ) (d : CLocal) → HasLocals nodes ls → i < length ls → (get_or ls i d).name.0 < length nodes.names
local_there nodes [] i d h l = absurd (omega (arith, l))
local_there nodes (x ∷ ls) zero d h l = h.0.1
local_there nodes (x ∷ ls) (suc i) d h l = local_there nodes ls i d h.1 (omega (arith, l))

pub param_there : (nodes : Nodes) (ps : List CParam) (i : ℕ) (d : CParam) → HasParams nodes ps → i < length ps → (get_or ps i d).name.0 < length nodes.names
param_there nodes [] i d h l = absurd (omega (arith, l))
param_there nodes (x ∷ ps) zero d h l = h.0.1
param_there nodes (x ∷ ps) (suc i) d h l = param_there nodes ps i d h.1 (omega (arith, l))

pub local_name_at : (names : List (List ℕ)) (look : ℕ → ExprTree) (ls : List CLocal) (i : ℕ) (d : CLocal) → i < length ls
    → slice_get (local_names (map (local_tree names look) ls)) i ≡ Some (bytes_at names (get_or ls i d).name.0)
local_name_at names look [] i d l = absurd (omega (arith, l))
local_name_at names look (x ∷ ls) zero d l = refl
local_name_at names look (x ∷ ls) (suc i) d l = local_name_at names look ls i d (omega (arith, l))

-- Those of parameters and then of locals, one by one.
pub param_at : (nodes : Nodes) (ps : List CParam) (ls : List CLocal) (i : ℕ) (d : CParam) → i < length ps → slice_get (names_in nodes ps ls) i ≡ Some (bytes_at nodes.names (get_or ps i d).name.0)
param_at nodes [] ls i d l = absurd (omega (arith, l))
param_at nodes (x ∷ ps) ls zero d l = refl
param_at nodes (x ∷ ps) ls (suc i) d l = param_at nodes ps ls i d (omega (arith, l))

pub local_at : (nodes : Nodes) (ps : List CParam) (ls : List CLocal) (i j : ℕ) (d : CLocal) → i ≡ length ps + j → j < length ls → slice_get (names_in nodes ps ls) i ≡ Some (bytes_at nodes.names (get_or ls j d).name.0)
local_at nodes [] ls i j d e l =
    let same : i ≡ j = omega (arith, e) in
    ap (slice_get (names_in nodes [] ls)) same ∙ local_name_at nodes.names (expr_of nodes) ls j d l
local_at nodes (x ∷ ps) ls zero j d e l = absurd (omega (arith, e))
local_at nodes (x ∷ ps) ls (suc i) j d e l = local_at nodes ps ls i j d (omega (arith, e)) l

pub names_count : (nodes : Nodes) (ps : List CParam) (ls : List CLocal) → length (names_in nodes ps ls) ≡ length ps + length ls
names_count nodes [] [] = refl
names_count nodes [] (l ∷ ls) = let k = names_count nodes [] ls in omega (arith, k)
names_count nodes (p ∷ ps) ls = let k = names_count nodes ps ls in omega (arith, k)

-- What is touched, by the trees.
pub touched_all : {ps ps' : List ParamTree} {ls ls' : List LocalTree} {code code' : Code} → ps' ≡ ps → ls' ≡ ls → code' ≡ code
    → touched (param_names ps' ++ local_names ls') code' code' ≡ touched (param_names ps ++ local_names ls) code code
touched_all {ps = ps} {ls = ls} {ls' = ls'} {code' = code'} p l k =
    ap (λ x. touched (param_names x ++ local_names ls') code' code') p ∙ ap (λ x. touched (param_names ps ++ local_names x) code' code') l ∙ ap (λ x. touched (param_names ps ++ local_names ls) x x) k
