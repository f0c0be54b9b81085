-- Names that keep their texts, while texts and nodes are added.
use Rattle.std.proofs.Common.{◌≡◌, ◌+◌, ◌<◌, ◌≤◌, ℕ, List, [], ◌∷◌, ◌++◌, Option, Some, length, drop, slice_get, slice_index_or, inl, inr, refl, sym, ap, ◌∙◌, subst, arith, length-append}
use Rattle.wf_ast.specs.declared.parsed.Given.{Given}
use Rattle.wf_ast.specs.declared.parsed.Name.{Name}
use Rattle.wf_ast.specs.ParsedParts.{JoinsText, GivenBelow}
use Rattle.wf_ast.proofs.TreeLemmas.{all_map, all_push, slice_get-front}
use Rattle.wf_ast.proofs.AboveLemmas.{given_at_place}
use Rattle.wf_named.specs.declared.nodes.NamedExprNode.{NamedExprNode}
use Rattle.wf_named.specs.declared.nodes.NamedStmtNode.{NamedStmtNode}
use Rattle.wf_named.specs.NamedTree as tree
use Rattle.wf_named.specs.NamedTree.{NamedExprTree, LetterTrees}
use Rattle.wf_named.specs.NamedTrees.{text_or, word_at, expr_at, letters_at}
use Rattle.wf_named.specs.NamedParts.{NamedParts, exprs_of, stmts_of, named_package, LettersBelow}
use Rattle.wf_named.proofs.StmtLemmas.{word_at-same, letters_at-same}
use Rattle.wf_names_rules.specs.Declarations.{bytes_in}
use Rattle.wf_names_rules.proofs.WalkLemmas.{drop-one}
use Rattle.wf_names_resolve.specs.Standing.{Standing}
use Rattle.wf_names_resolve.specs.Resolved.{NamedGiven, word_of, letters_of}
use Rattle.wf_names_resolve.specs.Ordered.{given_trees}
use Rattle.wf_names_resolve.specs.Growth.{Keeps, Grows}
use Rattle.wf_names_resolve.specs.Letters.{letters_by}
use Rattle.wf_names_resolve.proofs.Growth.{grows_self, grows_more, expr_kept}

texts_kept : (xs ys : List (List ℕ)) (text : List ℕ) → JoinsText xs ys text → (length xs ≤ length ys) × Keeps (length xs) xs ys
texts_kept xs ys text h = elim h [
  | inl same ↦ let P : List (List ℕ) → Type 0 = λ zs. (length xs ≤ length zs) × Keeps (length xs) xs zs in let now : P xs = (omega arith, λ i b. refl) in subst P (sym same) now
  | inr more ↦
      let P : List (List ℕ) → Type 0 = λ zs. (length xs ≤ length zs) × Keeps (length xs) xs zs in
      let now : P (xs ++ text ∷ []) = (omega (arith, length-append xs (text ∷ [])), λ i b. sym (slice_get-front xs (text ∷ []) i b)) in
      subst P (sym more) now
]

-- With a text more, or none.
pub grows_text : (p q : NamedParts) (text : List ℕ) → q ≡ record p { texts = q.texts } → JoinsText p.texts q.texts text → stmts_of q ≡ stmts_of p → named_package q ≡ named_package p → Grows p q
grows_text p q text e joins stmts whole =
    let exprs : q.exprs ≡ p.exprs = ap (λ (x : NamedParts). x.exprs) e in
    let nodes : q.stmts ≡ p.stmts = ap (λ (x : NamedParts). x.stmts) e in
    let trees : exprs_of q ≡ exprs_of p = ap (λ (x : NamedParts). exprs_of x) e in
    let texts = texts_kept p.texts q.texts text joins in
    record {
      texts = texts.0;
      exprs = omega (arith, ap (λ (xs : List NamedExprNode). length xs) exprs);
      stmts = omega (arith, ap (λ (xs : List NamedStmtNode). length xs) nodes);
      same_texts = texts.1;
      same_exprs = λ i h. ap (λ xs. slice_get xs i) (sym trees);
      same_stmts = λ i h. ap (λ xs. slice_get xs i) (sym stmts);
      whole = whole;
    }

-- The bytes that a text is found by.
pub word_found : (texts : List (List ℕ)) (own : Option (List ℕ)) (name : Name) (r : Name) (bytes : List ℕ) → slice_get texts r.text.0 ≡ Some bytes → bytes ≡ bytes_in own → r.at ≡ name.at
    → word_at texts r ≡ record { text = bytes_in own; at = name.at }
word_found texts own name r bytes e h p =
    let text : text_or (slice_get texts r.text.0) ≡ bytes_in own = ap text_or e ∙ h in cc

pub letters_by_of : (k : Standing) (gs : List NamedGiven) → letters_of k gs ≡ letters_by k.bytes gs
letters_by_of k [] = refl
letters_by_of k (g ∷ gs) = ap (tree.more_letters (word_of k.bytes g.name) g.value) (letters_by_of k gs)

module _ (p q : NamedParts) (g : Grows p q) where
  pub word_kept : (n : Name) → n.text.0 < length p.texts → word_at q.texts n ≡ word_at p.texts n
  word_kept n h = sym (word_at-same (length p.texts) p.texts q.texts g.same_texts n h)

  pub letters_kept : (gs : List Given) → LettersBelow (length p.texts) (length p.exprs) gs → letters_at q.texts (exprs_of q) gs ≡ letters_at p.texts (exprs_of p) gs
  letters_kept gs h = sym (letters_at-same (length p.texts) (length p.exprs) p.texts q.texts (exprs_of p) (exprs_of q) g.same_texts g.same_exprs gs h)

  pub letters_more : (gs : List Given) → LettersBelow (length p.texts) (length p.exprs) gs → LettersBelow (length q.texts) (length q.exprs) gs
  letters_more gs h =
      all_map (λ x. (x.name.text.0 < length p.texts) × (x.value.0 < length p.exprs)) (λ x. (x.name.text.0 < length q.texts) × (x.value.0 < length q.exprs))
      (λ x b. (omega (arith, b.0, g.texts), omega (arith, b.1, g.exprs))) gs h

abbrev pub letters_behind : LetterTrees → LetterTrees → LetterTrees
letters_behind tree.no_letter others = others
letters_behind (tree.more_letters letter value first) others = tree.more_letters letter value (letters_behind first others)

letters_end : (ls : LetterTrees) → letters_behind ls tree.no_letter ≡ ls
letters_end tree.no_letter = refl
letters_end (tree.more_letters letter value others) = ap (tree.more_letters letter value) (letters_end others)

letters_push : (texts : List (List ℕ)) (ts : List NamedExprTree) (gs : List Given) (x : Given) (others : LetterTrees)
    → letters_behind (letters_at texts ts (gs ++ x ∷ [])) others ≡ letters_behind (letters_at texts ts gs) (tree.more_letters (word_at texts x.name) (expr_at ts x.value) others)
letters_push texts ts [] x others = refl
letters_push texts ts (g ∷ gs) x others = ap (tree.more_letters (word_at texts g.name) (expr_at ts g.value)) (letters_push texts ts gs x others)

-- What a loop keeps over letters.
pub record LettersMade (bytes : ℕ → List ℕ) (given : List Given) (i : ℕ) (p q : NamedParts) (made : List Given) : Type 0 where
  pub grows : Grows p q
  pub below : LettersBelow (length q.texts) (length q.exprs) made
  pub trees : letters_behind (letters_at q.texts (exprs_of q) made) (letters_by bytes (given_trees (exprs_of p) (drop i given))) ≡ letters_by bytes (given_trees (exprs_of p) given)

pub letters_start : (bytes : ℕ → List ℕ) (p : NamedParts) (given made : List Given) → made ≡ [] → LettersMade bytes given 0 p p made
letters_start bytes p given made e =
    let P : List Given → Type 0 = λ m. LettersMade bytes given 0 p p m in
    let none : LettersMade bytes given 0 p p [] = record { grows = grows_self p; below = tt; trees = refl } in
    subst P (sym e) none

module _ (bytes : ℕ → List ℕ) (p q r : NamedParts) (i : ℕ) (given made : List Given) where
  pub letter_made : (d : Given) (name : Name) → i < length given → GivenBelow (length p.exprs) given → LettersMade bytes given i p q made → Grows q r → name.text.0 < length r.texts
      → word_at r.texts name ≡ word_of bytes (slice_index_or given i d).name
      → LettersMade bytes given (i + 1) p r (made ++ record { name = name; value = (slice_index_or given i d).value } ∷ [])
  letter_made d name h inside m g b is =
      let x = slice_index_or given i d in
      let l : Given = record { name = name; value = x.value } in
      let place = given_at_place (length p.exprs) given i d h inside in
      let far : Grows p r = grows_more p q r m.grows g in
      let rest = letters_by bytes (given_trees (exprs_of p) (drop (i + 1) given)) in
      let trees : letters_behind (letters_at r.texts (exprs_of r) (made ++ l ∷ [])) rest ≡ letters_by bytes (given_trees (exprs_of p) given) =
      letters_push r.texts (exprs_of r) made l rest
      ∙ ap (λ w. letters_behind (letters_at r.texts (exprs_of r) made) (tree.more_letters w (expr_at (exprs_of r) x.value) rest)) is
      ∙ ap (λ v. letters_behind (letters_at r.texts (exprs_of r) made) (tree.more_letters (word_of bytes x.name) v rest)) (expr_kept p r far x.value place.1)
      ∙ ap (λ ls. letters_behind ls (tree.more_letters (word_of bytes x.name) (expr_at (exprs_of p) x.value) rest)) (letters_kept q r g made m.below)
      ∙ sym (ap (λ xs. letters_behind (letters_at q.texts (exprs_of q) made) (letters_by bytes (given_trees (exprs_of p) xs))) (drop-one given i d h))
      ∙ m.trees in
      record {
        grows = far;
        below = all_push (λ x. (x.name.text.0 < length r.texts) × (x.value.0 < length r.exprs)) made l (letters_more q r g made m.below) (b, omega (arith, place.1, far.exprs));
        trees = trees;
      }

  pub letters_made : drop i given ≡ [] → LettersMade bytes given i p q made → letters_at q.texts (exprs_of q) made ≡ letters_by bytes (given_trees (exprs_of p) given)
  letters_made e m =
      sym (letters_end (letters_at q.texts (exprs_of q) made))
      ∙ sym (ap (λ xs. letters_behind (letters_at q.texts (exprs_of q) made) (letters_by bytes (given_trees (exprs_of p) xs))) e) ∙ m.trees
