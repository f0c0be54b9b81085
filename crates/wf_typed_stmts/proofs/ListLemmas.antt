-- Arguments, promises and letters, one after the other.
use Rattle.std.proofs.Common.{◌≡◌, ◌∙◌, refl, sym, ap, subst, ℕ, zero, suc, ◌+◌, ◌<◌, Bool, true, List, [], ◌∷◌, ◌++◌, length, map, drop, slice_index_or, Option, Some, None, nat_lt, arith}
use Rattle.std.specs.Prelude.{slice_get, unwrap_or}
use Rattle.std.specs.List.{list_all}
use Rattle.std.proofs.lemmas.List.{append_assoc, map-append}
use Rattle.wf_ast.specs.declared.numbers.ExprId.{ExprId}
use Rattle.wf_ast.specs.declared.numbers.TextId.{TextId}
use Rattle.wf_ast.specs.declared.parsed.Clause.{Clause}
use Rattle.wf_ast.specs.declared.parsed.Given.{Given}
use Rattle.wf_ast.specs.declared.parsed.LoopClause.{LoopClause}
use Rattle.wf_ast.specs.declared.typed_nodes.TypedNodes.{TypedNodes}
use Rattle.wf_ast.specs.TypedTree.{NumTree, CondTree, ValueTree}
use Rattle.wf_ast.specs.TypedTrees.{num_in, cond_in, tree_of, text_of}
use Rattle.wf_ast.specs.TypedInvariant.{is_expr}
use Rattle.wf_ast.proofs.Arena.{both_true}
use Rattle.wf_named.specs.NamedParts.{NamedParts, LettersBelow}
use Rattle.wf_named.specs.NamedTree.{NamedExprTree}
use Rattle.wf_named.specs.NamedTrees.{expr_at, args_at, clauses_at, letters_at, word_at, text_or}
use Rattle.wf_types_rules.specs.declared.settings.Setting.{Setting}
use Rattle.wf_types_exprs.proofs.ListLemmas.{drop-one}
use Rattle.wf_typed_tree.specs.ElaboratedExprs.{expr_tree, arg_trees}
use Rattle.wf_typed_tree.specs.ElaboratedStmts.{clause_trees, letter_trees}
use Rattle.wf_typed_tree.proofs.NumberLemmas.{and-true}
use Rattle.wf_typed_tree.specs.Entries.{expr_entries, handed_entries, arg_entries, clause_entries, letter_entries}
use Rattle.wf_typed_exprs.specs.Growth.{AddsEntries}
use Rattle.wf_typed_exprs.specs.Right.{IsRight}
use Rattle.wf_typed_stmts.specs.Parts.{HasTree, conditions_made, letter_exists, letters_made}
use Rattle.wf_typed_stmts.specs.Right.{Known, IsRightArg, AreRightArgs, AreRightClauses, AreRightLetters}
use Rattle.wf_typed_stmts.specs.StmtGrowth.{GrowsExprs, IsBegun}
use Rattle.wf_typed_stmts.proofs.EntryLemmas.{EntriesTo, entries_to_next}
use Rattle.wf_typed_stmts.proofs.GrowthLemmas.{less, exprs_more_still, exprs_more, conditions_more, letters_more, stmts_of_exprs, tree_kept}

-- Items before others.
chained : {Y : Type 0} (a b : List Y) (x y : Y) (rest all : List Y) → a ≡ b → x ≡ y → b ++ (y ∷ rest) ≡ all → (a ++ x ∷ []) ++ rest ≡ all
chained a b x y rest all e f h = append_assoc a (x ∷ []) rest ∙ ap (λ l. l ++ (x ∷ rest)) e ∙ ap (λ z. b ++ (z ∷ rest)) f ∙ h

pub all_push : {X : Type 0} (test : X → Bool) (xs : List X) (x : X) → list_all test xs ≡ true → test x ≡ true → list_all test (xs ++ x ∷ []) ≡ true
all_push test [] x h k = and-true (test x) true k refl
all_push test (y ∷ ys) x h k = let p = both_true (test y) (list_all test ys) h in and-true (test y) (list_all test (ys ++ x ∷ [])) p.0 (all_push test ys x p.1 k)

mapped_same : {X Y : Type 0} (test : X → Bool) (f g : X → Y) (xs : List X) → ((x : X) → test x ≡ true → g x ≡ f x) → list_all test xs ≡ true → map g xs ≡ map f xs
mapped_same test f g [] each h = refl
mapped_same test f g (x ∷ xs) each h =
    let p = both_true (test x) (list_all test xs) h in ap (λ y. y ∷ map g xs) (each x p.0) ∙ ap (λ ys. f x ∷ ys) (mapped_same test f g xs each p.1)

-- Arguments.
pub record ArgsMade (s : Setting) (k : Known) (named : NamedParts) (es : List NamedExprTree) (args : List ExprId) (i : ℕ) (p q : TypedNodes) (made : List ExprId) : Type 0 where
  pub grows : GrowsExprs p q
  pub begun : IsBegun named q
  pub there : list_all (is_expr q) made ≡ true
  pub trees : map (tree_of q) made ++ arg_trees s (args_at es (drop i args)) ≡ arg_trees s (args_at es args)
  pub right : AreRightArgs s k (args_at es (drop i args))
  pub entries : EntriesTo p q (arg_entries s (args_at es (drop i args))) (arg_entries s (args_at es args))

module _ (s : Setting) (k : Known) (named : NamedParts) (es : List NamedExprTree) where
  pub arg_right : (args : List ExprId) (i : ℕ) (d : ExprId) → i < length args → AreRightArgs s k (args_at es (drop i args))
      → IsRightArg s k (expr_at es (slice_index_or args i d)) × AreRightArgs s k (args_at es (drop (i + 1) args))
  arg_right args i d h r = let P : List ExprId → Type 0 = λ xs. AreRightArgs s k (args_at es xs) in subst P (drop-one args i d h) r

  pub args_added : (args : List ExprId) (i : ℕ) (p q r : TypedNodes) (made : List ExprId) (d e : ExprId) → i < length args → ArgsMade s k named es args i p q made → GrowsExprs q r → IsBegun named r
      → HasTree (expr_tree s (expr_at es (slice_index_or args i d))) r e → AddsEntries q r (handed_entries s (expr_at es (slice_index_or args i d))) → ArgsMade s k named es args (i + 1) p r (made ++ e ∷ [])
  args_added args i p q r made d e h m g b is one =
      let x = expr_at es (slice_index_or args i d) in
      let rest = arg_trees s (args_at es (drop (i + 1) args)) in
      let grown = stmts_of_exprs q r g in
      let old : map (tree_of r) made ≡ map (tree_of q) made = mapped_same (is_expr q) (tree_of q) (tree_of r) made (tree_kept q r grown) m.there in
      let here : map (tree_of q) made ++ (expr_tree s x ∷ rest) ≡ arg_trees s (args_at es args) =
      sym (ap (λ xs. map (tree_of q) made ++ arg_trees s (args_at es xs)) (drop-one args i d h)) ∙ m.trees in
      record {
        grows = exprs_more_still p q r m.grows g;
        begun = b;
        there = all_push (is_expr r) made e (exprs_more q r g.exprs.exprs made m.there) is.there;
        trees =
            ap (λ ts. ts ++ rest) (map-append (tree_of r) made (e ∷ [])) ∙ chained (map (tree_of r) made) (map (tree_of q) made) (tree_of r e) (expr_tree s x) rest (arg_trees s (args_at es args)) old is.is here;
        right = (arg_right args i d h m.right).1;
        entries =
            entries_to_next p q r (handed_entries s x) (arg_entries s (args_at es (drop (i + 1) args))) (arg_entries s (args_at es (drop i args))) (arg_entries s (args_at es args)) m.entries
            (ap (λ xs. arg_entries s (args_at es xs)) (drop-one args i d h)) one;
      }

-- Promises.
pub record ClausesMade (s : Setting) (k : Known) (named : NamedParts) (es : List NamedExprTree) (clauses : List LoopClause) (i : ℕ) (p q : TypedNodes) (made : List (Clause × ExprId)) : Type 0 where
  pub grows : GrowsExprs p q
  pub begun : IsBegun named q
  pub there : list_all (λ c. is_expr q c.1) made ≡ true
  pub trees : conditions_made (tree_of q) made ++ clause_trees s (clauses_at es (drop i clauses)) ≡ clause_trees s (clauses_at es clauses)
  pub right : AreRightClauses s k (clauses_at es (drop i clauses))
  pub entries : EntriesTo p q (clause_entries s (clauses_at es (drop i clauses))) (clause_entries s (clauses_at es clauses))

module _ (s : Setting) (k : Known) (named : NamedParts) (es : List NamedExprTree) where
  pub clause_right : (clauses : List LoopClause) (i : ℕ) (d : LoopClause) → i < length clauses → AreRightClauses s k (clauses_at es (drop i clauses))
      → IsRight s k.statuses (expr_at es (slice_index_or clauses i d).condition) × AreRightClauses s k (clauses_at es (drop (i + 1) clauses))
  clause_right clauses i d h r = let P : List LoopClause → Type 0 = λ xs. AreRightClauses s k (clauses_at es xs) in subst P (drop-one clauses i d h) r

  pub clauses_added : (clauses : List LoopClause) (i : ℕ) (p q r : TypedNodes) (made : List (Clause × ExprId)) (d : LoopClause) (e : ExprId) → i < length clauses
      → ClausesMade s k named es clauses i p q made → GrowsExprs q r → IsBegun named r
      → HasTree (expr_tree s (expr_at es (slice_index_or clauses i d).condition)) r e → AddsEntries q r (expr_entries s (expr_at es (slice_index_or clauses i d).condition))
      → ClausesMade s k named es clauses (i + 1) p r (made ++ ((slice_index_or clauses i d).kind, e) ∷ [])
  clauses_added clauses i p q r made d e h m g b is added =
      let x = slice_index_or clauses i d in
      let one : Clause × ExprId = (x.kind, e) in
      let C : (ExprId → ValueTree) → Clause × ExprId → Clause × CondTree = λ look c. (c.0, cond_in (look c.1)) in
      let rest = clause_trees s (clauses_at es (drop (i + 1) clauses)) in
      let grown = stmts_of_exprs q r g in
      let old : conditions_made (tree_of r) made ≡ conditions_made (tree_of q) made =
      mapped_same (λ (c : Clause × ExprId). is_expr q c.1) (C (tree_of q)) (C (tree_of r)) made (λ c l. let t = tree_kept q r grown c.1 l in rw t refl) m.there in
      let new : C (tree_of r) one ≡ C (λ z. expr_tree s (expr_at es x.condition)) one = let t = is.is in rw t refl in
      let here : conditions_made (tree_of q) made ++ (C (λ z. expr_tree s (expr_at es x.condition)) one ∷ rest) ≡ clause_trees s (clauses_at es clauses) =
      sym (ap (λ xs. conditions_made (tree_of q) made ++ clause_trees s (clauses_at es xs)) (drop-one clauses i d h)) ∙ m.trees in
      record {
        grows = exprs_more_still p q r m.grows g;
        begun = b;
        there = all_push (λ (c : Clause × ExprId). is_expr r c.1) made one (conditions_more q r g.exprs.exprs made m.there) is.there;
        trees =
            ap (λ ts. ts ++ rest) (map-append (C (tree_of r)) made (one ∷ []))
            ∙ chained (conditions_made (tree_of r) made) (conditions_made (tree_of q) made) (C (tree_of r) one) (C (λ z. expr_tree s (expr_at es x.condition)) one) rest (clause_trees s (clauses_at es clauses)) old new here;
        right = (clause_right clauses i d h m.right).1;
        entries =
            entries_to_next p q r (expr_entries s (expr_at es x.condition)) (clause_entries s (clauses_at es (drop (i + 1) clauses))) (clause_entries s (clauses_at es (drop i clauses)))
            (clause_entries s (clauses_at es clauses)) m.entries (ap (λ xs. clause_entries s (clauses_at es xs)) (drop-one clauses i d h)) added;
      }

-- Letters.
text_same : (texts own : List (List ℕ)) (t : TextId) → own ≡ texts → unwrap_or (slice_get own t.0) [] ≡ text_or (slice_get texts t.0)
text_same texts own t e = ap (λ ts. unwrap_or (slice_get ts t.0) []) e ∙ by_text (slice_get texts t.0)
  where
    by_text : (o : Option (List ℕ)) → unwrap_or o [] ≡ text_or o
    by_text None = refl
    by_text (Some text) = refl

pub word_text : (named : NamedParts) (q : TypedNodes) (t : TextId) → IsBegun named q → text_of q t ≡ text_or (slice_get named.texts t.0)
word_text named q t b = text_same named.texts q.texts t b.texts

pub record LettersMade (s : Setting) (k : Known) (named : NamedParts) (es : List NamedExprTree) (given : List Given) (i : ℕ) (p q : TypedNodes) (made : List (TextId × ExprId)) : Type 0 where
  pub grows : GrowsExprs p q
  pub begun : IsBegun named q
  pub there : list_all (letter_exists q) made ≡ true
  pub trees : letters_made q (tree_of q) made ++ letter_trees s (letters_at named.texts es (drop i given)) ≡ letter_trees s (letters_at named.texts es given)
  pub right : AreRightLetters s k (letters_at named.texts es (drop i given))
  pub entries : EntriesTo p q (letter_entries s (letters_at named.texts es (drop i given))) (letter_entries s (letters_at named.texts es given))

module _ (s : Setting) (k : Known) (named : NamedParts) (es : List NamedExprTree) where
  pub letter_right : (given : List Given) (i : ℕ) (d : Given) → i < length given → AreRightLetters s k (letters_at named.texts es (drop i given))
      → IsRight s k.statuses (expr_at es (slice_index_or given i d).value) × AreRightLetters s k (letters_at named.texts es (drop (i + 1) given))
  letter_right given i d h r = let P : List Given → Type 0 = λ xs. AreRightLetters s k (letters_at named.texts es xs) in subst P (drop-one given i d h) r

  pub letters_added : (given : List Given) (i : ℕ) (p q r : TypedNodes) (made : List (TextId × ExprId)) (d : Given) (e : ExprId) → i < length given
      → (slice_index_or given i d).name.text.0 < length named.texts → LettersMade s k named es given i p q made → GrowsExprs q r → IsBegun named r
      → HasTree (expr_tree s (expr_at es (slice_index_or given i d).value)) r e → AddsEntries q r (expr_entries s (expr_at es (slice_index_or given i d).value))
      → LettersMade s k named es given (i + 1) p r (made ++ ((slice_index_or given i d).name.text, e) ∷ [])
  letters_added given i p q r made d e h low m g b is added =
      let x = slice_index_or given i d in
      let one : TextId × ExprId = (x.name.text, e) in
      let L : TypedNodes → TextId × ExprId → List ℕ × NumTree = λ nodes c. (text_of nodes c.0, num_in (tree_of nodes c.1)) in
      let Y : List ℕ × NumTree = ((word_at named.texts x.name).text, num_in (expr_tree s (expr_at es x.value))) in
      let rest = letter_trees s (letters_at named.texts es (drop (i + 1) given)) in
      let grown = stmts_of_exprs q r g in
      let texts : r.texts ≡ q.texts = ap (λ (n : TypedNodes). n.texts) g.exprs.rest in
      let methods : r.methods ≡ q.methods = ap (λ (n : TypedNodes). n.methods) g.exprs.rest in
      let statuses : r.statuses ≡ q.statuses = ap (λ (n : TypedNodes). n.statuses) g.exprs.rest in
      let old : letters_made r (tree_of r) made ≡ letters_made q (tree_of q) made =
      mapped_same (letter_exists q) (L q) (L r) made
      (λ c l. let t = tree_kept q r grown c.1 (both_true (nat_lt c.0.0 (length q.texts)) (is_expr q c.1) l).1 in rw (t, texts) refl) m.there in
      let text = word_text named r x.name.text b in
      let new : L r one ≡ Y = let t = is.is in rw (t, text) refl in
      let here : letters_made q (tree_of q) made ++ (Y ∷ rest) ≡ letter_trees s (letters_at named.texts es given) =
      sym (ap (λ xs. letters_made q (tree_of q) made ++ letter_trees s (letters_at named.texts es xs)) (drop-one given i d h)) ∙ m.trees in
      let low_there : nat_lt x.name.text.0 (length r.texts) ≡ true = ap (λ (ts : List (List ℕ)). nat_lt x.name.text.0 (length ts)) b.texts ∙ less x.name.text.0 (length named.texts) low in
      record {
        grows = exprs_more_still p q r m.grows g;
        begun = b;
        there = all_push (letter_exists r) made one (letters_more q r g.exprs.exprs methods texts statuses g.exprs.same_types made m.there) (and-true (nat_lt x.name.text.0 (length r.texts)) (is_expr r e) low_there is.there);
        trees = ap (λ ts. ts ++ rest) (map-append (L r) made (one ∷ [])) ∙ chained (letters_made r (tree_of r) made) (letters_made q (tree_of q) made) (L r one) Y rest (letter_trees s (letters_at named.texts es given)) old new here;
        right = (letter_right given i d h m.right).1;
        entries =
            entries_to_next p q r (expr_entries s (expr_at es x.value)) (letter_entries s (letters_at named.texts es (drop (i + 1) given))) (letter_entries s (letters_at named.texts es (drop i given)))
            (letter_entries s (letters_at named.texts es given)) m.entries (ap (λ xs. letter_entries s (letters_at named.texts es xs)) (drop-one given i d h)) added;
      }

pub given_there : (t e : ℕ) (gs : List Given) (i : ℕ) (d : Given) → i < length gs → LettersBelow t e gs → (slice_index_or gs i d).name.text.0 < t
given_there t e [] i d h b = absurd (omega (arith, h))
given_there t e (g ∷ gs) zero d h b = b.0.0
given_there t e (g ∷ gs) (suc i) d h b = given_there t e gs i d (omega (arith, h)) b.1
