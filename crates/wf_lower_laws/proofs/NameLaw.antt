-- The parameters and locals of each function have different names of C, and none of an item.
use Rattle.std.proofs.Common.{◌≡◌, ℕ, zero, suc, ◌+◌, Bool, true, false, not, ◌&&◌, ◌||◌, List, [], ◌∷◌, ◌++◌, map, Some, refl, sym, ap, ◌∙◌, subst, arith}
use Rattle.std.specs.Prelude.{if◌then◌else◌, bytes_eq, codes, slice_get}
use Rattle.std.specs.List.{list_all}
use Rattle.wf_text.specs.Surface as surface
use Rattle.wf_text.specs.Surface.{AnswerKind}
use Rattle.wf_ast.specs.TypedPackage.{Variable, MethodTree, PackageTree, answers_of}
use Rattle.wf_ast.specs.WellTyped.{is_coroutine}
use Rattle.wf_ast.proofs.Arena.{both_true}
use Rattle.c_text.specs.CSpelling.{is_word_byte, is_reserved}
use Rattle.c_text.specs.CTree.{LocalTree, ParamTree, ItemTree}
use Rattle.c_meaning.specs.CTypes.{local_name}
use Rattle.c_meaning.specs.UnitForm.{is_among, all_distinct, is_library, item_name, own_names}
use Rattle.wf_exprs.specs.Names.{named}
use Rattle.wf_exprs.specs.Helpers.{saturating}
use Rattle.wf_lower_stmts.specs.Forms.{Form, form_of}
use Rattle.wf_lower.specs.Bodies.{params_of, io_locals, bytes_locals, locals_of, further_locals, resume_of, only_read, body_code, fixed_locals, body_locals, body_function, answer_locals, entry_function}
use Rattle.wf_lower.specs.Unit.{initialize_function, lowered_unit}
use Rattle.wf_lower_laws.specs.NameLaw.{begins, is_own_name, are_named, OwnNames, TextsNameApart}
use Rattle.wf_lower_laws.proofs.Names.{both_hold, among_passes, distinct_by, is_item}
use Rattle.wf_lower_laws.proofs.Items.{Each, each_at, in_unit}
use Rattle.wf_lower_laws.proofs.OwnNames.{names, args_labels, args_distinct, args_all, labels, From, io_distinct, io_all, bytes_distinct, bytes_all, locals_distinct, locals_all, read_all, read_distinct, all_both, labels_both, map_both}

-- ---- tests of names

abbrev is_word_name : List ℕ → Bool
is_word_name name = list_all is_word_byte name

not_among_by : (T : List ℕ → Bool) (ls : List (List ℕ)) (l : List ℕ) → list_all T ls ≡ true → T l ≡ false → is_among ls l ≡ false
not_among_by T ls l h e = by (is_among ls l) refl
  where
    by : (b : Bool) → is_among ls l ≡ b → is_among ls l ≡ false
    by false g = g
    by true g = absurd (cc (among_passes T ls l h g, e))

all_named : (T : List ℕ → Bool) (xs : List ParamTree) → list_all T (map (λ it. it.name) xs) ≡ list_all (λ it. T it.name) xs
all_named T [] = refl
all_named T (x ∷ xs) = ap (λ b. T x.name && b) (all_named T xs)

words_of : (xs : List Variable) → list_all (λ x. list_all is_word_byte x.name) xs ≡ list_all is_word_name (names xs)
words_of [] = refl
words_of (x ∷ xs) = ap (λ b. list_all is_word_byte x.name && b) (words_of xs)

abbrev is_free : List (List ℕ) → List ℕ → Bool
is_free all name = not (is_among all name) && not (is_library name)

free : (all : List (List ℕ)) → list_all is_item all ≡ true → (l : List ℕ) → is_item l ≡ false → is_library l ≡ false → is_free all l ≡ true
free all h l e g = rw (not_among_by is_item all l h e, g) refl

-- A test that each name of a method's functions passes.
record Passes (T : List ℕ → Bool) : Type 0 where
  own : T (codes "self") ≡ true
  args : (x : List ℕ) → is_word_name x ≡ true → (T (codes "a_" ++ x) ≡ true) × ((T (codes "ap_" ++ x) ≡ true) × (T (codes "al_" ++ x) ≡ true))
  places : (x : List ℕ) → is_word_name x ≡ true → (T (codes "p_" ++ x) ≡ true) × (T (codes "e_" ++ x) ≡ true)
  locals : (x : List ℕ) → is_word_name x ≡ true → (T (codes "v_" ++ x) ≡ true) × ((T (codes "vp_" ++ x) ≡ true) × (T (codes "vl_" ++ x) ≡ true))
  bytes : (x : List ℕ) → is_word_name x ≡ true → T (codes "b_" ++ x) ≡ true
  further : list_all T (labels further_locals) ≡ true
  resume : T (codes "resume") ≡ true

free_passes : (all : List (List ℕ)) → list_all is_item all ≡ true → Passes (is_free all)
free_passes all h = record {
  own = free all h (codes "self") refl refl;
  args = λ x w. (free all h (codes "a_" ++ x) refl refl, (free all h (codes "ap_" ++ x) refl refl, free all h (codes "al_" ++ x) refl refl));
  places = λ x w. (free all h (codes "p_" ++ x) refl refl, free all h (codes "e_" ++ x) refl refl);
  locals = λ x w. (free all h (codes "v_" ++ x) refl refl, (free all h (codes "vp_" ++ x) refl refl, free all h (codes "vl_" ++ x) refl refl));
  bytes = λ x w. free all h (codes "b_" ++ x) refl refl;
  further =
      both_hold (is_free all (codes "status")) _ (free all h (codes "status") refl refl) (both_hold (is_free all (codes "got")) _ (free all h (codes "got") refl refl)
      (both_hold (is_free all (codes "size")) _ (free all h (codes "size") refl refl) (both_hold (is_free all (codes "held")) _ (free all h (codes "held") refl refl) (both_hold (is_free all (codes "count")) true (free all h (codes "count") refl refl) refl))));
  resume = free all h (codes "resume") refl refl;
}

name_passes : Passes is_own_name
unfolding is_reserved
name_passes = record {
  own = refl;
  args = λ x w. (rw w refl, (rw w refl, rw w refl));
  places = λ x w. (rw w refl, rw w refl);
  locals = λ x w. (rw w refl, (rw w refl, rw w refl));
  bytes = λ x w. rw w refl;
  further = refl;
  resume = refl;
}

-- ---- bodies

pub named_at : (xs : List Variable) (i : ℕ) (x : Variable) → slice_get xs i ≡ Some x → named (names xs) i ≡ x.name
named_at [] i x e = absurd (cc e)
named_at (y ∷ xs) zero x e = ap (λ (v : Variable). v.name) (some_same e)
  where
    some_same : Some y ≡ Some x → y ≡ x
    some_same e = cc e
named_at (y ∷ xs) (suc i) x e = named_at xs i x e

pub from_front : (p : PackageTree) (m : MethodTree) → From (form_of p m) 0 m.args
from_front p m i x e =
    let same : i ≡ 0 + i = omega arith in
    let P : ℕ → Type 0 = λ n. named (names m.args) n ≡ x.name in
    subst P same (named_at m.args i x e)

pub record Words (m : MethodTree) : Type 0 where
  pub args_apart : all_distinct (names m.args) ≡ true
  pub args_words : list_all is_word_name (names m.args) ≡ true
  pub locals_apart : all_distinct (names m.locals) ≡ true
  pub locals_words : list_all is_word_name (names m.locals) ≡ true

pub words : (m : MethodTree) → (are_named m.args && are_named m.locals) ≡ true → Words m
words m h =
    let p = both_true (are_named m.args) (are_named m.locals) h in
    let a = both_true (all_distinct (names m.args)) (list_all (λ x. list_all is_word_byte x.name) m.args) p.0 in
    let l = both_true (all_distinct (names m.locals)) (list_all (λ x. list_all is_word_byte x.name) m.locals) p.1 in
    record { args_apart = a.0; args_words = sym (words_of m.args) ∙ a.1; locals_apart = l.0; locals_words = sym (words_of m.locals) ∙ l.1 }

module _ (p : PackageTree) (m : MethodTree) (w : Words m) where
  abbrev f : Form
  f = form_of p m

  abbrev io_labels : List (List ℕ)
  io_labels = labels (io_locals f 0 m.args)

  abbrev var_labels : List (List ℕ)
  var_labels = labels (locals_of m.locals)

  abbrev bytes_labels : List (List ℕ)
  bytes_labels = labels (only_read (body_code f) (bytes_locals f 0 m.args))

  abbrev more_labels : List (List ℕ)
  more_labels = labels (only_read (body_code f) further_locals)

  abbrev resume_labels : List (List ℕ)
  resume_labels = labels (if is_coroutine m.mark then resume_of m ∷ [] else [])

  abbrev behind_labels : List (List ℕ)
  behind_labels = (io_labels ++ var_labels) ++ (bytes_labels ++ (more_labels ++ resume_labels))

  all_labels : labels (body_locals f) ≡ behind_labels
  all_labels =
      labels_both (fixed_locals f) _
      ∙ (ap (λ ls. ls ++ labels (only_read (body_code f) (bytes_locals f 0 m.args) ++ (only_read (body_code f) further_locals ++ (if is_coroutine m.mark then resume_of m ∷ [] else [])))) (labels_both (io_locals f 0 m.args) (locals_of m.locals))
      ∙ ap (λ ls. (io_labels ++ var_labels) ++ ls) (labels_both (only_read (body_code f) (bytes_locals f 0 m.args)) _
      ∙ ap (λ ls. bytes_labels ++ ls) (labels_both (only_read (body_code f) further_locals) (if is_coroutine m.mark then resume_of m ∷ [] else []))))

  resume_all : (T : List ℕ → Bool) (b : Bool) → T (codes "resume") ≡ true → list_all T (labels (if b then resume_of m ∷ [] else [])) ≡ true
  resume_all T true h = both_hold (T (codes "resume")) true h refl
  resume_all T false h = refl

  resume_distinct : (b : Bool) → all_distinct (labels (if b then resume_of m ∷ [] else [])) ≡ true
  resume_distinct true = refl
  resume_distinct false = refl

  behind_all : (T : List ℕ → Bool) → ((x : List ℕ) → is_word_name x ≡ true → (T (codes "p_" ++ x) ≡ true) × (T (codes "e_" ++ x) ≡ true))
      → ((x : List ℕ) → is_word_name x ≡ true → (T (codes "v_" ++ x) ≡ true) × ((T (codes "vp_" ++ x) ≡ true) × (T (codes "vl_" ++ x) ≡ true)))
      → ((x : List ℕ) → is_word_name x ≡ true → T (codes "b_" ++ x) ≡ true) → list_all T (labels further_locals) ≡ true → T (codes "resume") ≡ true → list_all T behind_labels ≡ true
  behind_all T places locals bytes further resume =
      all_both T (io_labels ++ var_labels) (bytes_labels ++ (more_labels ++ resume_labels))
      (all_both T io_labels var_labels (io_all T is_word_name f 0 m.args (from_front p m) w.args_words places) (locals_all T is_word_name m.locals w.locals_words locals))
      (all_both T bytes_labels (more_labels ++ resume_labels) (read_all T is_word_name (body_code f) (bytes_locals f 0 m.args) (bytes_all T is_word_name f 0 m.args (from_front p m) w.args_words bytes))
      (all_both T more_labels resume_labels (read_all T is_word_name (body_code f) further_locals further) (resume_all T (is_coroutine m.mark) resume)))

  behind_distinct : all_distinct behind_labels ≡ true
  behind_distinct =
      let T : List ℕ → Bool = λ l. begins (codes "p") l || (begins (codes "e") l || begins (codes "v") l) in
      let U : List ℕ → Bool = λ l. not (begins (codes "v") l) in
      let R : List ℕ → Bool = λ l. not (bytes_eq l (codes "resume")) in
      let B : List ℕ → Bool = λ l. begins (codes "b") l in
      distinct_by T (io_labels ++ var_labels) (bytes_labels ++ (more_labels ++ resume_labels))
      (all_both T io_labels var_labels (io_all T is_word_name f 0 m.args (from_front p m) w.args_words (λ x _. (refl, refl))) (locals_all T is_word_name m.locals w.locals_words (λ x _. (refl, (refl, refl)))))
      (all_both (λ l. not (T l)) bytes_labels (more_labels ++ resume_labels) (bytes_too (λ l. not (T l)) (λ x _. refl))
      (all_both (λ l. not (T l)) more_labels resume_labels (read_all (λ l. not (T l)) is_word_name (body_code f) further_locals refl) (resume_all (λ l. not (T l)) (is_coroutine m.mark) refl)))
      (distinct_by U io_labels var_labels (io_all U is_word_name f 0 m.args (from_front p m) w.args_words (λ x _. (refl, refl))) (locals_all (λ l. not (U l)) is_word_name m.locals w.locals_words (λ x _. (refl, (refl, refl))))
      (io_distinct f 0 m.args (from_front p m) w.args_apart) (locals_distinct m.locals w.locals_apart))
      (distinct_by B bytes_labels (more_labels ++ resume_labels) (bytes_too B (λ x _. refl))
      (all_both (λ l. not (B l)) more_labels resume_labels (read_all (λ l. not (B l)) is_word_name (body_code f) further_locals refl) (resume_all (λ l. not (B l)) (is_coroutine m.mark) refl))
      (read_distinct (body_code f) (bytes_locals f 0 m.args) (bytes_distinct f 0 m.args (from_front p m) w.args_apart))
      (distinct_by R more_labels resume_labels (read_all R is_word_name (body_code f) further_locals refl) (resume_all (λ l. not (R l)) (is_coroutine m.mark) refl)
      (read_distinct (body_code f) further_locals refl) (resume_distinct (is_coroutine m.mark))))
    where
      bytes_too : (T : List ℕ → Bool) → ((x : List ℕ) → is_word_name x ≡ true → T (codes "b_" ++ x) ≡ true) → list_all T bytes_labels ≡ true
      bytes_too T h = read_all T is_word_name (body_code f) (bytes_locals f 0 m.args) (bytes_all T is_word_name f 0 m.args (from_front p m) w.args_words h)

  -- With the parameters at the front, and any names after them that aren't spelt like them.
  with_params : (ls : List (List ℕ)) → list_all (λ l. not (begins (codes "a") l)) ls ≡ true → list_all (λ l. not (bytes_eq l (codes "self"))) ls ≡ true → all_distinct ls ≡ true
      → all_distinct (codes "self" ∷ (args_labels m.args ++ ls)) ≡ true
  with_params ls h j d =
      let S : List ℕ → Bool = λ l. not (bytes_eq l (codes "self")) in
      let A : List ℕ → Bool = λ l. begins (codes "a") l in
      let alone = not_among_by S (args_labels m.args ++ ls) (codes "self") (all_both S (args_labels m.args) ls (args_all S is_word_name m.args w.args_words (λ x _. (refl, (refl, refl)))) j) refl in
      rw (alone, distinct_by A (args_labels m.args) ls (args_all A is_word_name m.args w.args_words (λ x _. (refl, (refl, refl)))) h (args_distinct m.args w.args_apart) d) refl

  param_names : (ls : List LocalTree) → map (λ it. it.name) (params_of p m ++ map local_name ls) ≡ codes "self" ∷ (args_labels m.args ++ labels ls)
  param_names ls = map_both (λ it. it.name) (params_of p m) (map local_name ls)

  params_all : (T : List ℕ → Bool) → Passes T → (ls : List (List ℕ)) → list_all T ls ≡ true → list_all T (codes "self" ∷ (args_labels m.args ++ ls)) ≡ true
  params_all T t ls h = both_hold (T (codes "self")) _ t.own (all_both T (args_labels m.args) ls (args_all T is_word_name m.args w.args_words t.args) h)

  own : (all : List (List ℕ)) → list_all is_item all ≡ true → (ls : List LocalTree) → list_all (λ l. not (begins (codes "a") l)) (labels ls) ≡ true → list_all (λ l. not (bytes_eq l (codes "self"))) (labels ls) ≡ true
      → all_distinct (labels ls) ≡ true → ((T : List ℕ → Bool) → Passes T → list_all T (labels ls) ≡ true)
      → (own_names (params_of p m ++ map local_name ls) all ≡ true) × (list_all (λ it. is_own_name it.name) (params_of p m ++ map local_name ls) ≡ true)
  own all items ls h j d each =
      let ps = params_of p m ++ map local_name ls in
      let P : List (List ℕ) → Type 0 = λ ns. all_distinct ns ≡ true in
      let F : List (List ℕ) → Type 0 = λ ns. list_all (is_free all) ns ≡ true in
      let N : List (List ℕ) → Type 0 = λ ns. list_all is_own_name ns ≡ true in
      let distinct : all_distinct (map (λ it. it.name) ps) ≡ true = subst P (sym (param_names ls)) (with_params (labels ls) h j d) in
      let frees : list_all (is_free all) (map (λ it. it.name) ps) ≡ true = subst F (sym (param_names ls)) (params_all (is_free all) (free_passes all items) (labels ls) (each (is_free all) (free_passes all items))) in
      let are_names : list_all is_own_name (map (λ it. it.name) ps) ≡ true = subst N (sym (param_names ls)) (params_all is_own_name name_passes (labels ls) (each is_own_name name_passes)) in
      (both_hold (all_distinct (map (λ it. it.name) ps)) _ distinct (sym (all_named (is_free all) ps) ∙ frees), sym (all_named is_own_name ps) ∙ are_names)

  pub body_own : (all : List (List ℕ)) → list_all is_item all ≡ true → OwnNames all (body_function f)
  body_own all items =
      let ls = body_locals f in
      let A : List (List ℕ) → Type 0 = λ ns. list_all (λ l. not (begins (codes "a") l)) ns ≡ true in
      let S : List (List ℕ) → Type 0 = λ ns. list_all (λ l. not (bytes_eq l (codes "self"))) ns ≡ true in
      let D : List (List ℕ) → Type 0 = λ ns. all_distinct ns ≡ true in
      own all items ls
      (subst A (sym all_labels) (behind_all (λ l. not (begins (codes "a") l)) (λ x _. (refl, refl)) (λ x _. (refl, (refl, refl))) (λ x _. refl) refl refl))
      (subst S (sym all_labels) (behind_all (λ l. not (bytes_eq l (codes "self"))) (λ x _. (refl, refl)) (λ x _. (refl, (refl, refl))) (λ x _. refl) refl refl))
      (subst D (sym all_labels) behind_distinct)
      (λ T t. let E : List (List ℕ) → Type 0 = λ ns. list_all T ns ≡ true in subst E (sym all_labels) (behind_all T t.places t.locals t.bytes t.further t.resume))

  pub entry_own : (n : ℕ) (all : List (List ℕ)) → list_all is_item all ≡ true → OwnNames all (entry_function p n m)
  entry_own n all items = by (answers_of m.mark m.gives)
    where
      status_of : (T : List ℕ → Bool) → Passes T → T (codes "status") ≡ true
      status_of T t = (both_true (T (codes "status")) _ t.further).0

      got_of : (T : List ℕ → Bool) → Passes T → T (codes "got") ≡ true
      got_of T t = (both_true (T (codes "got")) _ (both_true (T (codes "status")) _ t.further).1).0

      by : (kind : AnswerKind) → (own_names (params_of p m ++ map local_name (answer_locals kind)) all ≡ true) × (list_all (λ it. is_own_name it.name) (params_of p m ++ map local_name (answer_locals kind)) ≡ true)
      by surface.status = own all items (answer_locals surface.status) refl refl refl (λ T t. both_hold (T (codes "status")) true (status_of T t) refl)
      by (surface.numeric bits) = own all items (answer_locals (surface.numeric bits)) refl refl refl (λ T t. both_hold (T (codes "got")) true (got_of T t) refl)
      by surface.truth = own all items (answer_locals surface.truth) refl refl refl (λ T t. both_hold (T (codes "got")) true (got_of T t) refl)
      by surface.nothing = own all items [] refl refl refl (λ T t. refl)

-- ---- the text

abbrev IsItemName : ItemTree → Type 0
IsItemName item = is_item (item_name item) ≡ true

helper_is_item : (sum : Bool) (bits : ℕ) → IsItemName (saturating sum bits)
helper_is_item true bits = refl
helper_is_item false bits = refl

all_items : (items : List ItemTree) → Each IsItemName items → list_all is_item (map item_name items) ≡ true
all_items [] h = refl
all_items (x ∷ xs) h = both_hold (is_item (item_name x)) _ h.0 (all_items xs h.1)

items_named : (p : PackageTree) → Each IsItemName (lowered_unit p)
items_named p = in_unit IsItemName p (record {
  buffer = refl;
  structs = λ s. refl;
  texts = λ n bytes. refl;
  helpers = helper_is_item;
  inits = λ s. refl;
  bodies = λ n m e. refl;
  entries = λ n m e. refl;
})

item_names : (p : PackageTree) → list_all is_item (map item_name (lowered_unit p)) ≡ true
item_names p = all_items (lowered_unit p) (items_named p)

pub item_is_named : (p : PackageTree) (i : ℕ) (item : ItemTree) → slice_get (lowered_unit p) i ≡ Some item → is_item (item_name item) ≡ true
item_is_named p i item e = each_at IsItemName (lowered_unit p) (items_named p) i item e

init_own : (p : PackageTree) (s : ℕ) (all : List (List ℕ)) → list_all is_item all ≡ true → OwnNames all (initialize_function p s)
unfolding is_reserved
init_own p s all h = (rw (free all h (codes "self") refl refl) refl, refl)

helper_own : (sum : Bool) (bits : ℕ) (all : List (List ℕ)) → list_all is_item all ≡ true → OwnNames all (saturating sum bits)
unfolding is_reserved
helper_own sum bits all h = (rw (free all h (codes "a") refl refl, free all h (codes "b") refl refl) refl, refl)

pub named_method : (ms : List MethodTree) (i : ℕ) (m : MethodTree) → list_all (λ m. are_named m.args && are_named m.locals) ms ≡ true → slice_get ms i ≡ Some m → (are_named m.args && are_named m.locals) ≡ true
named_method [] i m h e = absurd (cc e)
named_method (x ∷ ms) zero m h e =
    let same : x ≡ m = cc e in
    let P : MethodTree → Type 0 = λ m. (are_named m.args && are_named m.locals) ≡ true in
    subst P same (both_true (are_named x.args && are_named x.locals) _ h).0
named_method (x ∷ ms) (suc i) m h e = named_method ms i m (both_true (are_named x.args && are_named x.locals) _ h).1 e

pub texts_name_apart : TextsNameApart
texts_name_apart p number item h e =
    let all = map item_name (lowered_unit p) in
    each_at (OwnNames all) (lowered_unit p) (in_unit (OwnNames all) p (record {
      buffer = tt;
      structs = λ s. tt;
      texts = λ n bytes. tt;
      helpers = λ sum bits. helper_own sum bits all (item_names p);
      inits = λ s. init_own p s all (item_names p);
      bodies = λ n m is. body_own p m (words m (named_method p.methods n m h is)) all (item_names p);
      entries = λ n m is. entry_own p m (words m (named_method p.methods n m h is)) n all (item_names p);
    })) number item e
