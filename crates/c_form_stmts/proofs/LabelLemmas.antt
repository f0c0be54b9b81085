-- Labels by their names in a table.
use Rattle.std.proofs.Common.{◌≡◌, ◌<◌, ◌+◌, ℕ, Bool, true, false, not, if◌then◌else◌, List, [], ◌∷◌, ◌++◌, map, drop, get_or, length, Option, Some, None, is_none, Result, Ok, Err, IfOk, refl, sym, ◌∙◌, ap}
use Rattle.std.specs.Option.{option_or}
use Rattle.std.specs.Str.{bytes_eq}
use Rattle.wf_text.specs.declared.faults.NoMemory.{NoMemory}
use Rattle.c_text.specs.CNodes.{Nodes}
use Rattle.pens.proofs.Progress.{unroll}
use Rattle.c_meaning.specs.UnitForm.{is_among, all_distinct}
use Rattle.c_form_exprs.specs.Tables.{named}
use Rattle.c_form_exprs.proofs.GrowLemmas.{named_end}
use Rattle.c_form_stmts.specs.declared.lines.Line.{Line}
use Rattle.c_form_stmts.specs.Lines.{LineTree, line_in}
use Rattle.c_form_stmts.specs.Names.{are_new}
use Rattle.c_form_stmts.specs.Statements.{label_of, label_names, is_label, label_at}
use Rattle.c_form_stmts.specs.Labels.{Labelled, LabelledNext}
use Rattle.c_form_stmts.proofs.NameLemmas.{named_among, new_from_none}

or_or : {V : Type 0} (a : Option V) (b : Bool) (v : V) (c : Option V) → option_or (option_or a (if b then Some v else None)) c ≡ option_or a (if b then Some v else c)
or_or None true v c = refl
or_or None false v c = refl
or_or (Some x) b v c = refl

map_end : {A B : Type 0} (f : A → B) (xs : List A) (y : A) → map f (xs ++ y ∷ []) ≡ map f xs ++ f y ∷ []
map_end f [] y = refl
map_end f (x ∷ xs) y = ap (λ zs. f x ∷ zs) (map_end f xs y)

pub one_label : (whole : List LineTree) (l : LineTree) (left : List LineTree) (table : List (List ℕ × ℕ)) (i : ℕ) (distinct : Bool) (name : List ℕ) → label_of l.code ≡ Some name → true ≡ is_none (named table name) → Labelled whole (l ∷ left) table i distinct → Labelled whole left (table ++ (name, i) ∷ []) (i + 1) distinct
one_label whole l left table i distinct name is fresh h = record {
  found = λ q. ap (λ o. option_or o (label_at (i + 1) left q)) (named_end table name i q) ∙ (or_or (named table q) (bytes_eq q name) i (label_at (i + 1) left q) ∙ (ap (λ o. option_or (named table q) (if is_label q o then Some i else label_at (i + 1) left q)) (sym is) ∙ h.found q));
  new = ap (λ xs. are_new xs (label_names left)) (map_end (λ (e : List ℕ × ℕ). e.0) table (name, i)) ∙ (before ∙ h.new);
}
  where
    free : not (is_among (map (λ (e : List ℕ × ℕ). e.0) table) name) ≡ true
    free = sym (named_among table name) ∙ sym fresh

    before : are_new (map (λ e. e.0) table ++ name ∷ []) (label_names left) ≡ are_new (map (λ e. e.0) table) (label_names (l ∷ left))
    before = rw (is, free) refl

pub twice : (whole : List LineTree) (l : LineTree) (left : List LineTree) (table : List (List ℕ × ℕ)) (i : ℕ) (distinct : Bool) (name : List ℕ) → label_of l.code ≡ Some name → false ≡ is_none (named table name) → Labelled whole (l ∷ left) table i distinct → distinct ≡ false
twice whole l left table i distinct name is taken h = sym h.new ∙ at_once
  where
    known : not (is_among (map (λ (e : List ℕ × ℕ). e.0) table) name) ≡ false
    known = sym (named_among table name) ∙ sym taken

    at_once : are_new (map (λ e. e.0) table) (label_names (l ∷ left)) ≡ false
    at_once = rw (is, known) refl

pub label_added : (whole : List LineTree) (l : LineTree) (left : List LineTree) (old new : List (List ℕ × ℕ)) (i : ℕ) (distinct : Bool) (name : List ℕ) (r : Result Bool NoMemory) → label_of l.code ≡ Some name → IfOk r (λ fresh. fresh ≡ is_none (named old name)) → IfOk r (λ fresh. new ≡ (if fresh then old ++ (name, i) ∷ [] else old)) → Labelled whole (l ∷ left) old i distinct → IfOk r (LabelledNext whole left new i distinct)
label_added whole l left old new i distinct name (Ok true) is fresh added h = rw added (one_label whole l left old i distinct name is fresh h)
label_added whole l left old new i distinct name (Ok false) is fresh added h = twice whole l left old i distinct name is fresh h
label_added whole l left old new i distinct name (Err fault) is fresh added h = tt

pub next_line : (nodes : Nodes) (lines : List Line) (i : ℕ) (d : Line) → i < length lines → map (line_in nodes) (drop i lines) ≡ line_in nodes (get_or lines i d) ∷ map (line_in nodes) (drop (i + 1) lines)
next_line nodes lines i d within = ap (map (line_in nodes)) (unroll lines i d within)

pub labels_begin : (whole : List LineTree) (table : List (List ℕ × ℕ)) → table ≡ [] → Labelled whole whole table 0 (all_distinct (label_names whole))
labels_begin whole table none = rw none (record { found = λ q. refl; new = new_from_none (label_names whole) })

pub next_true : (whole left : List LineTree) (table : List (List ℕ × ℕ)) (i : ℕ) (distinct unique : Bool) → unique ≡ true → LabelledNext whole left table i distinct unique → Labelled whole left table (i + 1) distinct
next_true whole left table i distinct true is h = h
next_true whole left table i distinct false is h = absurd (cc (is))

pub next_false : (whole left : List LineTree) (table : List (List ℕ × ℕ)) (i : ℕ) (distinct unique : Bool) → unique ≡ false → LabelledNext whole left table i distinct unique → distinct ≡ false
next_false whole left table i distinct true is h = absurd (cc (is))
next_false whole left table i distinct false is h = h
