-- Units that grow.
use Rattle.std.proofs.Common.{◌≡◌, ◌<◌, ℕ, Result, Ok, Err, IfOk, OnErr, List, [], ◌∷◌, ◌++◌, length, refl, sym, ◌∙◌, ap, subst, arith, length-append, inl, inr}
use Rattle.wf_text.specs.declared.faults.NoMemory.{NoMemory}
use Rattle.c_text.specs.declared.ids.CExprId.{CExprId}
use Rattle.c_text.specs.declared.ids.CNameId.{CNameId}
use Rattle.c_text.specs.declared.nodes.CExpr.{CExpr}
use Rattle.c_text.specs.declared.nodes.CStmt.{CStmt}
use Rattle.c_text.specs.CNodes.{Nodes, no_nodes, bytes_at, expr_of, made_expr}
use Rattle.c_text.specs.CUnit.{IsSound, Extends, AddsName, SharesExpr}
use Rattle.c_text.specs.CTree.{ExprTree}
use Rattle.c_text.proofs.Growth.{with_expr, with_stmt}
use Rattle.c_text.proofs.Trees.{append_nil, bytes_at-front, expr_of-kept, code_of-kept}
use Rattle.wf_exprs.specs.Grown.{Grows, HasExpr, HasNamed}

longer : {X : Type 0} (xs ys zs : List X) (n : ℕ) → ys ≡ xs ++ zs → n < length xs → n < length ys
longer xs ys zs n h k = let l = length-append xs zs in let e = ap length h in omega (arith, l, e, k)

pub grown : (old new : Nodes) → IsSound old → Extends old new → new.strings ≡ old.strings → new.items ≡ old.items → Grows old new
grown old new sound extends texts same = record {
  more_names = λ n h. longer old.names new.names extends.more.names n extends.names h;
  more_exprs = λ e h. longer old.exprs new.exprs extends.more.exprs e extends.exprs h;
  more_stmts = λ s h. longer old.stmts new.stmts extends.more.stmts s extends.stmts h;
  names = λ n h. ap (λ (x : List (List ℕ)). bytes_at x n) extends.names ∙ bytes_at-front old.names extends.more.names n h;
  exprs = λ e h. expr_of-kept old new sound extends e h;
  stmts = λ s h. code_of-kept old new sound extends s h;
  strings = texts;
  items = same;
}

pub unchanged : (old new : Nodes) → new ≡ old → Grows old new
unchanged old new same = subst (λ (n : Nodes). Grows old n) (sym same) (record { more_names = λ n h. h; more_exprs = λ e h. h; more_stmts = λ s h. h; names = λ n h. refl; exprs = λ e h. refl; stmts = λ s h. refl; strings = refl; items = refl })

pub grows_on : {a b c : Nodes} → Grows a b → Grows b c → Grows a c
grows_on g h = record {
  more_names = λ n k. h.more_names n (g.more_names n k);
  more_exprs = λ e k. h.more_exprs e (g.more_exprs e k);
  more_stmts = λ s k. h.more_stmts s (g.more_stmts s k);
  names = λ n k. h.names n (g.more_names n k) ∙ g.names n k;
  exprs = λ e k. h.exprs e (g.more_exprs e k) ∙ g.exprs e k;
  stmts = λ s k. h.stmts s (g.more_stmts s k) ∙ g.stmts s k;
  strings = h.strings ∙ g.strings;
  items = h.items ∙ g.items;
}

pub grown_expr : (old new : Nodes) (x : CExpr) → IsSound old → new ≡ record old { exprs = old.exprs ++ x ∷ [] } → Grows old new
grown_expr old new x sound is = let there : Grows old (record old { exprs = old.exprs ++ x ∷ [] }) = grown old (record old { exprs = old.exprs ++ x ∷ [] }) sound (with_expr old x) refl refl in subst (λ (n : Nodes). Grows old n) (sym is) there

pub grown_stmt : (old new : Nodes) (x : CStmt) → IsSound old → new ≡ record old { stmts = old.stmts ++ x ∷ [] } → Grows old new
grown_stmt old new x sound is = let there : Grows old (record old { stmts = old.stmts ++ x ∷ [] }) = grown old (record old { stmts = old.stmts ++ x ∷ [] }) sound (with_stmt old x) refl refl in subst (λ (n : Nodes). Grows old n) (sym is) there

with_names : (old : Nodes) (added : List (List ℕ)) → Extends old (record old { names = old.names ++ added })
with_names old added = record { more = record no_nodes { names = added }; names = refl; strings = sym (append_nil old.strings); exprs = sym (append_nil old.exprs); stmts = sym (append_nil old.stmts); items = sym (append_nil old.items) }

pub grown_name : (old new : Nodes) (name : List ℕ) (n : ℕ) → IsSound old → AddsName old new name n → Grows old new
grown_name old new name n sound adds = let there : Grows old (record old { names = old.names ++ adds.added }) = grown old (record old { names = old.names ++ adds.added }) sound (with_names old adds.added) refl refl in subst (λ (m : Nodes). Grows old m) (sym adds.grown) there

-- What a unit has stays there while it grows.
pub kept_expr : {a b : Nodes} (e : ℕ) (tree : ExprTree) → Grows a b → HasExpr a e tree → HasExpr b e tree
kept_expr e tree g h = record { there = g.more_exprs e h.there; is = g.exprs e h.there ∙ h.is }

pub kept_name : {a b : Nodes} (n : ℕ) (name : List ℕ) → Grows a b → HasNamed a n name → HasNamed b n name
kept_name n name g h = record { there = g.more_names n h.there; is = g.names n h.there ∙ h.is }

pub retold : {a : Nodes} {e : ℕ} {tree other : ExprTree} → HasExpr a e tree → tree ≡ other → HasExpr a e other
retold h same = record { there = h.there; is = h.is ∙ same }

-- What becomes of the ways in which a unit grows, by their answers.
pub put_grows : (old new : Nodes) (x : CExpr) (r : Result CExprId NoMemory) → IsSound old → IfOk r (λ id. SharesExpr old new x id.0) → OnErr r (new ≡ old) → Grows old new
put_grows old new x (Ok id) sound ok err = elim ok.grown [ inl same ↦ unchanged old new same | inr more ↦ grown_expr old new x sound more ]
put_grows old new x (Err refused) sound ok err = unchanged old new err

pub put_made : (old new : Nodes) (x : CExpr) (r : Result CExprId NoMemory) → IfOk r (λ id. SharesExpr old new x id.0) → IfOk r (λ id. HasExpr new id.0 (made_expr old.names (expr_of old) x))
put_made old new x (Ok id) ok = record { there = ok.there; is = ok.is }
put_made old new x (Err refused) ok = ok

pub name_grows : (old new : Nodes) (name : List ℕ) (r : Result CNameId NoMemory) → IsSound old → IfOk r (λ n. AddsName old new name n.0) → OnErr r (new ≡ old) → Grows old new
name_grows old new name (Ok n) sound ok err = grown_name old new name n.0 sound ok
name_grows old new name (Err refused) sound ok err = unchanged old new err

pub name_made : (old new : Nodes) (name : List ℕ) (r : Result CNameId NoMemory) → IfOk r (λ n. AddsName old new name n.0) → IfOk r (λ n. HasNamed new n.0 name)
name_made old new name (Ok n) ok = record { there = ok.known; is = ok.spelt }
name_made old new name (Err refused) ok = ok

pub retell : (a : Nodes) (tree other : ExprTree) (r : Result CExprId NoMemory) → tree ≡ other → IfOk r (λ e. HasExpr a e.0 tree) → IfOk r (λ e. HasExpr a e.0 other)
retell a tree other (Ok e) same h = retold h same
retell a tree other (Err refused) same h = h
