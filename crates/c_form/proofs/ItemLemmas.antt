-- Items by their names, and the fields of structs.
use Rattle.std.proofs.Common.{◌≡◌, ◌<◌, ◌≤◌, ◌+◌, ℕ, zero, suc, Bool, true, false, not, ◌&&◌, if◌then◌else◌, List, [], ◌∷◌, ◌++◌, map, take, drop, length, get_or, codes, Option, Some, None, is_some, is_none, Result, Ok, Err, IfOk, refl, sym, ◌∙◌, ap, subst, arith}
use Rattle.std.specs.List.{slice_get, list_all}
use Rattle.std.specs.Option.{option_map, option_or}
use Rattle.std.specs.Str.{bytes_eq}
use Rattle.wf_text.specs.declared.faults.NoMemory.{NoMemory}
use Rattle.c_text.proofs.Names.{bytes_eq-true}
use Rattle.c_text.specs.CTree.{ItemTree, FieldTree, TypeTree, uint, size, boolean, uint_pointer}
use Rattle.c_text.specs.CNodes.{Nodes, bytes_at, field_tree, unit_tree}
use Rattle.c_text.specs.declared.nodes.CField.{CField}
use Rattle.c_text.specs.declared.kinds.CUint.TheVariants.{U8, U64}
use Rattle.pens.proofs.Progress.{unroll}
use Rattle.std.proofs.lemmas.List.{length-map}
use Rattle.c_form_exprs.specs.Front.{Front, front_items}
use Rattle.c_meaning.specs.CTypes.{StructDecl}
use Rattle.c_meaning.specs.UnitForm.{is_among, item_name, is_library, free_name, formed_content, formed_field, formed_fields, is_field, are_fields, io_buffer_fields}
use Rattle.c_form_exprs.specs.Tables.{named}
use Rattle.c_form_exprs.proofs.GrowLemmas.{named_end}
use Rattle.c_form_stmts.proofs.NameLemmas.{named_among, new_from_none}
use Rattle.c_form_stmts.specs.Names.{are_new}
use Rattle.c_form.specs.Items.{item_at, formed_alone, fields_fit}

-- A table of the items before number `i`, and the items that are left.
abbrev pub Names : (all left : List ItemTree) → List (List ℕ × ℕ) → ℕ → Type 0
Names all left table i = (q : List ℕ) → option_or (named table q) (item_at i left q) ≡ item_at 0 all q

or_or : {V : Type 0} (a : Option V) (b : Bool) (v : V) (c : Option V) → option_or (option_or a (if b then Some v else None)) c ≡ option_or a (if b then Some v else c)
or_or None true v c = refl
or_or None false v c = refl
or_or (Some x) b v c = refl

kept : (table : List (List ℕ × ℕ)) (name q : List ℕ) (i : ℕ) (c : Option ℕ) → false ≡ is_none (named table name) → option_or (named table q) (if bytes_eq q name then Some i else c) ≡ option_or (named table q) c
kept table name q i c taken = by (bytes_eq q name) refl
  where
    some : (o : Option ℕ) → false ≡ is_none o → option_or o (Some i) ≡ option_or o c
    some None h = absurd (cc (h))
    some (Some x) h = refl

    by : (b : Bool) → bytes_eq q name ≡ b → option_or (named table q) (if bytes_eq q name then Some i else c) ≡ option_or (named table q) c
    by true is = let same : q ≡ name = bytes_eq-true q name is in rw is (subst (λ (z : List ℕ). option_or (named table z) (Some i) ≡ option_or (named table z) c) (sym same) (some (named table name) taken))
    by false is = rw is refl

pub names_grow : (all left : List ItemTree) (x : ItemTree) (old new : List (List ℕ × ℕ)) (i : ℕ) (name : List ℕ) (fresh : Bool) → item_name x ≡ name → fresh ≡ is_none (named old name) → new ≡ (if fresh then old ++ (name, i) ∷ [] else old) → Names all (x ∷ left) old i → Names all left new (i + 1)
names_grow all left x old new i name true is fresh added h q = rw added (rw (named_end old name i q) (or_or (named old q) (bytes_eq q name) i (item_at (i + 1) left q) ∙ (ap (λ z. option_or (named old q) (if bytes_eq q z then Some i else item_at (i + 1) left q)) (sym is) ∙ h q)))
names_grow all left x old new i name false is fresh added h q = rw added (sym (kept old name q i (item_at (i + 1) left q) fresh) ∙ (ap (λ z. option_or (named old q) (if bytes_eq q z then Some i else item_at (i + 1) left q)) (sym is) ∙ h q))

pub at_among : (i : ℕ) (items : List ItemTree) (q : List ℕ) → is_some (item_at i items q) ≡ is_among (map item_name items) q
at_among i [] q = refl
at_among i (x ∷ items) q = by (bytes_eq q (item_name x)) refl (at_among (i + 1) items q)
  where
    by : (b : Bool) → bytes_eq q (item_name x) ≡ b → is_some (item_at (i + 1) items q) ≡ is_among (map item_name items) q → is_some (item_at i (x ∷ items) q) ≡ is_among (map item_name (x ∷ items)) q
    by true is rest = rw is refl
    by false is rest = rw is rest

pub table_among : (items : List ItemTree) (table : List (List ℕ × ℕ)) → ((q : List ℕ) → named table q ≡ item_at 0 items q) → (q : List ℕ) → is_some (named table q) ≡ is_among (map item_name items) q
table_among items table h q = ap is_some (h q) ∙ at_among 0 items q

-- The fields of a struct.
fit_step : (f n a r : Bool) → (f && (n && (a && r))) ≡ ((f && a) && (n && r))
fit_step true true true r = refl
fit_step true true false r = refl
fit_step true false true r = refl
fit_step true false false r = refl
fit_step false n a r = refl

fit_by : (structs : List StructDecl) (seen : List (List ℕ)) (fs : List FieldTree) → fields_fit structs seen fs ≡ (list_all (formed_field structs) fs && are_new seen (map (λ f. f.name) fs))
fit_by structs seen [] = refl
fit_by structs seen (f ∷ fs) = ap (λ b. formed_field structs f && (not (is_among seen f.name) && b)) (fit_by structs (seen ++ f.name ∷ []) fs) ∙ fit_step (formed_field structs f) (not (is_among seen f.name)) (list_all (formed_field structs) fs) (are_new (seen ++ f.name ∷ []) (map (λ g. g.name) fs))

pub fields_formed : (structs : List StructDecl) (fs : List FieldTree) → formed_fields structs fs ≡ fields_fit structs [] fs
fields_formed structs fs = sym (fit_by structs [] fs ∙ ap (λ b. list_all (formed_field structs) fs && b) (new_from_none (map (λ f. f.name) fs)))

-- The loop over fields, by a table of their names.
pub field_new : (structs : List StructDecl) (f : FieldTree) (fs : List FieldTree) (table new : List (List ℕ × Unit {0})) (whole : Bool) → formed_field structs f ≡ true → true ≡ is_none (named table f.name) → new ≡ table ++ (f.name, tt) ∷ [] → fields_fit structs (map (λ e. e.0) table) (f ∷ fs) ≡ whole → fields_fit structs (map (λ e. e.0) new) fs ≡ whole
field_new structs f fs table new whole formed fresh added h =
    let free : not (is_among (map (λ (e : List ℕ × Unit {0}). e.0) table) f.name) ≡ true = sym (named_among table f.name) ∙ sym fresh in
    let names : map (λ (e : List ℕ × Unit {0}). e.0) new ≡ map (λ e. e.0) table ++ f.name ∷ [] = ap (map (λ (e : List ℕ × Unit {0}). e.0)) added ∙ map_end table (f.name, tt) in
    ap (λ ns. fields_fit structs ns fs) names ∙ (sym (ap (λ b. b && (not (is_among (map (λ (e : List ℕ × Unit {0}). e.0) table) f.name) && fields_fit structs (map (λ e. e.0) table ++ f.name ∷ []) fs)) formed ∙ ap (λ b. b && fields_fit structs (map (λ e. e.0) table ++ f.name ∷ []) fs) free) ∙ h)
  where
    map_end : (xs : List (List ℕ × Unit {0})) (y : List ℕ × Unit {0}) → map (λ (e : List ℕ × Unit {0}). e.0) (xs ++ y ∷ []) ≡ map (λ e. e.0) xs ++ y.0 ∷ []
    map_end [] y = refl
    map_end (x ∷ xs) y = ap (λ zs. x.0 ∷ zs) (map_end xs y)

pub field_twice : (structs : List StructDecl) (f : FieldTree) (fs : List FieldTree) (table : List (List ℕ × Unit {0})) (whole : Bool) → false ≡ is_none (named table f.name) → fields_fit structs (map (λ e. e.0) table) (f ∷ fs) ≡ whole → false ≡ whole
field_twice structs f fs table whole taken h =
    let known : not (is_among (map (λ (e : List ℕ × Unit {0}). e.0) table) f.name) ≡ false = sym (named_among table f.name) ∙ sym taken in
    sym (ap (λ b. formed_field structs f && (b && fields_fit structs (map (λ e. e.0) table ++ f.name ∷ []) fs)) known ∙ and_false (formed_field structs f)) ∙ h
  where
    and_false : (b : Bool) → (b && false) ≡ false
    and_false true = refl
    and_false false = refl

pub some_at : {A : Type 0} (xs : List A) (i : ℕ) → i < length xs → (x : A) × (slice_get xs i ≡ Some x)
some_at [] i h = absurd (omega (arith, h))
some_at (x ∷ xs) zero h = (x, refl)
some_at (x ∷ xs) (suc i) h = some_at xs i (omega (arith, h))

pub drop_at : {A : Type 0} (xs : List A) (i : ℕ) (x : A) → slice_get xs i ≡ Some x → drop i xs ≡ x ∷ drop (i + 1) xs
drop_at [] i x h = absurd (cc (h))
drop_at (a ∷ xs) zero x h = ap (λ y. y ∷ xs) (cc (h))
drop_at {A} (a ∷ xs) (suc i) x h = drop_at xs i x h ∙ ap (λ ys. x ∷ ys) skip
  where
    skip : drop (i + 1) xs ≡ drop (suc i + 1) (a ∷ xs)
    skip = sym (ap (λ k. drop k (a ∷ xs)) (let e : suc i + 1 ≡ suc (i + 1) = omega arith in e))

pub drop_all : {A : Type 0} (xs : List A) (i : ℕ) → length xs ≤ i → drop i xs ≡ []
drop_all [] zero h = refl
drop_all [] (suc i) h = refl
drop_all (x ∷ xs) zero h = absurd (omega (arith, h))
drop_all (x ∷ xs) (suc i) h = drop_all xs i (omega (arith, h))

-- The next item comes into the table of names.
pub names_next : (items : List ItemTree) (old new : List (List ℕ × ℕ)) (i : ℕ) (name : List ℕ) (fresh : Bool) → i < length items → option_map item_name (slice_get items i) ≡ Some name → fresh ≡ is_none (named old name) → new ≡ (if fresh then old ++ (name, i) ∷ [] else old) → Names items (drop i items) old i → Names items (drop (i + 1) items) new (i + 1)
names_next items old new i name fresh within spelt f g h =
    let found = some_at items i within in
    let is : item_name found.0 ≡ name = (let e : Some (item_name found.0) ≡ Some name = sym (ap (option_map item_name) found.1) ∙ spelt in cc (e)) in
    names_grow items (drop (i + 1) items) found.0 old new i name fresh is f g (subst (λ (xs : List ItemTree). Names items xs old i) (drop_at items i found.0 found.1) h)

or_none : {A : Type 0} (o : Option A) → option_or o None ≡ o
or_none None = refl
or_none (Some x) = refl

pub names_done : (items : List ItemTree) (table : List (List ℕ × ℕ)) (i : ℕ) → length items ≤ i → Names items (drop i items) table i → (q : List ℕ) → named table q ≡ item_at 0 items q
names_done items table i over h q = sym (or_none (named table q)) ∙ (ap (λ xs. option_or (named table q) (item_at i xs q)) (sym (drop_all items i over)) ∙ h q)

-- The fields of an io buffer, each by its own test.
and_true : (a : Bool) → a ≡ (a && true)
and_true true = refl
and_true false = refl

and_none : (b : Bool) → (b && false) ≡ false
and_none true = refl
and_none false = refl

fields_apart : (ws : List (TypeTree × List ℕ)) (fs : List FieldTree) → (length ws ≡ length fs → ⊥) → are_fields ws fs ≡ false
fields_apart [] [] apart = absurd (apart refl)
fields_apart [] (f ∷ fs) apart = refl
fields_apart (w ∷ ws) [] apart = refl
fields_apart (w ∷ ws) (f ∷ fs) apart = ap (λ b. is_field w.0 w.1 f && b) (fields_apart ws fs (λ e. apart (ap suc e))) ∙ and_none (is_field w.0 w.1 f)

pub buffer_apart : (nodes : Nodes) (fs : List CField) → (length fs ≡ 6 → ⊥) → false ≡ are_fields io_buffer_fields (map (field_tree nodes.names) fs)
buffer_apart nodes fs apart = sym (fields_apart io_buffer_fields (map (field_tree nodes.names) fs) (λ e. apart (sym (length-map fs (field_tree nodes.names)) ∙ sym e)))

pub buffer_six : (nodes : Nodes) (fs : List CField) (d : CField) (r : Bool) → length fs ≡ 6 → true ≡ is_field (uint_pointer U8) (codes "ptr") (field_tree nodes.names (get_or fs 0 d)) → true ≡ is_field size (codes "len") (field_tree nodes.names (get_or fs 1 d)) → true ≡ is_field size (codes "wi") (field_tree nodes.names (get_or fs 2 d)) → true ≡ is_field size (codes "ri") (field_tree nodes.names (get_or fs 3 d)) → true ≡ is_field (uint U64) (codes "pos") (field_tree nodes.names (get_or fs 4 d)) → r ≡ is_field boolean (codes "closed") (field_tree nodes.names (get_or fs 5 d)) → r ≡ are_fields io_buffer_fields (map (field_tree nodes.names) fs)
buffer_six nodes [] d r h a0 a1 a2 a3 a4 a5 = absurd (omega (arith, h))
buffer_six nodes (f0 ∷ []) d r h a0 a1 a2 a3 a4 a5 = absurd (omega (arith, h))
buffer_six nodes (f0 ∷ f1 ∷ []) d r h a0 a1 a2 a3 a4 a5 = absurd (omega (arith, h))
buffer_six nodes (f0 ∷ f1 ∷ f2 ∷ []) d r h a0 a1 a2 a3 a4 a5 = absurd (omega (arith, h))
buffer_six nodes (f0 ∷ f1 ∷ f2 ∷ f3 ∷ []) d r h a0 a1 a2 a3 a4 a5 = absurd (omega (arith, h))
buffer_six nodes (f0 ∷ f1 ∷ f2 ∷ f3 ∷ f4 ∷ []) d r h a0 a1 a2 a3 a4 a5 = absurd (omega (arith, h))
buffer_six nodes (f0 ∷ f1 ∷ f2 ∷ f3 ∷ f4 ∷ f5 ∷ []) d r h a0 a1 a2 a3 a4 a5 =
    let n : List (List ℕ) = nodes.names in
    let t1 = ap (λ b. b && are_fields (drop 1 io_buffer_fields) (map (field_tree n) (f1 ∷ f2 ∷ f3 ∷ f4 ∷ f5 ∷ []))) (sym a0) in
    let t2 = ap (λ b. b && are_fields (drop 2 io_buffer_fields) (map (field_tree n) (f2 ∷ f3 ∷ f4 ∷ f5 ∷ []))) (sym a1) in
    let t3 = ap (λ b. b && are_fields (drop 3 io_buffer_fields) (map (field_tree n) (f3 ∷ f4 ∷ f5 ∷ []))) (sym a2) in
    let t4 = ap (λ b. b && are_fields (drop 4 io_buffer_fields) (map (field_tree n) (f4 ∷ f5 ∷ []))) (sym a3) in
    let t5 = ap (λ b. b && are_fields (drop 5 io_buffer_fields) (map (field_tree n) (f5 ∷ []))) (sym a4) in
    sym (t1 ∙ (t2 ∙ (t3 ∙ (t4 ∙ (t5 ∙ (sym (and_true (is_field boolean (codes "closed") (field_tree n f5))) ∙ sym a5))))))
buffer_six nodes (f0 ∷ f1 ∷ f2 ∷ f3 ∷ f4 ∷ f5 ∷ f6 ∷ fs) d r h a0 a1 a2 a3 a4 a5 = absurd (omega (arith, h))

-- The loop over fields, by their numbers.
next_field : (nodes : Nodes) (fs : List CField) (i : ℕ) (d : CField) → i < length fs → map (field_tree nodes.names) (drop i fs) ≡ field_tree nodes.names (get_or fs i d) ∷ map (field_tree nodes.names) (drop (i + 1) fs)
next_field nodes fs i d within = ap (map (field_tree nodes.names)) (unroll fs i d within)

pub twice_at : (structs : List StructDecl) (nodes unit : Nodes) (fs : List CField) (i : ℕ) (d : CField) (seen : List (List ℕ × Unit {0})) (whole fresh : Bool) (name : List ℕ) → i < length fs → unit ≡ nodes → name ≡ bytes_at unit.names (get_or fs i d).name.0 → fresh ≡ is_none (named seen name) → fresh ≡ false → fields_fit structs (map (λ e. e.0) seen) (map (field_tree nodes.names) (drop i fs)) ≡ whole → false ≡ whole
twice_at structs nodes unit fs i d seen whole fresh name within one told is isnt h =
    let spelt : name ≡ bytes_at nodes.names (get_or fs i d).name.0 = told ∙ ap (λ (n : Nodes). bytes_at n.names (get_or fs i d).name.0) one in
    field_twice structs (field_tree nodes.names (get_or fs i d)) (map (field_tree nodes.names) (drop (i + 1) fs)) seen whole (sym isnt ∙ (is ∙ ap (λ n. is_none (named seen n)) spelt)) (ap (fields_fit structs (map (λ e. e.0) seen)) (sym (next_field nodes fs i d within)) ∙ h)

pub next_at : (structs : List StructDecl) (nodes unit : Nodes) (fs : List CField) (i : ℕ) (d : CField) (seen new : List (List ℕ × Unit {0})) (whole fresh : Bool) (name : List ℕ) → i < length fs → true ≡ formed_field structs (field_tree nodes.names (get_or fs i d)) → unit ≡ nodes → name ≡ bytes_at unit.names (get_or fs i d).name.0 → fresh ≡ is_none (named seen name) → fresh ≡ true → new ≡ (if fresh then seen ++ (name, tt) ∷ [] else seen) → fields_fit structs (map (λ e. e.0) seen) (map (field_tree nodes.names) (drop i fs)) ≡ whole → fields_fit structs (map (λ e. e.0) new) (map (field_tree nodes.names) (drop (i + 1) fs)) ≡ whole
next_at structs nodes unit fs i d seen new whole fresh name within formed one told is meets added h =
    let spelt : name ≡ bytes_at nodes.names (get_or fs i d).name.0 = told ∙ ap (λ (n : Nodes). bytes_at n.names (get_or fs i d).name.0) one in
    field_new structs (field_tree nodes.names (get_or fs i d)) (map (field_tree nodes.names) (drop (i + 1) fs)) seen new whole (sym formed) (sym meets ∙ (is ∙ ap (λ n. is_none (named seen n)) spelt)) (added ∙ (ap (λ b. if b then seen ++ (name, tt) ∷ [] else seen) meets ∙ ap (λ n. seen ++ (n, tt) ∷ []) spelt)) (ap (fields_fit structs (map (λ e. e.0) seen)) (sym (next_field nodes fs i d within)) ∙ h)

-- An item after others, whose name is free.
alone_by : (before : List ItemTree) (all : List (List ℕ)) (item : ItemTree) → (before ≡ [] → ⊥) → free_name before item ≡ true → formed_alone before all item ≡ formed_content before all item
alone_by [] all item some free = absurd (some refl)
alone_by (x ∷ before) all item some free = ap (λ b. b && formed_content (x ∷ before) all item) free

take_some : {A : Type 0} (xs : List A) (n : ℕ) (x : A) → (n ≡ 0 → ⊥) → slice_get xs n ≡ Some x → take n xs ≡ [] → ⊥
take_some [] n x some is none = absurd (cc (is))
take_some (a ∷ xs) zero x some is none = absurd (some refl)
take_some (a ∷ xs) (suc n) x some is none = absurd (cc (none))

pub content_told : (front : Front) (all : List (List ℕ)) (i : ℕ) (item : ItemTree) (spelt : List ℕ) (r : Result Bool NoMemory) → i ≡ front.count → (i ≡ 0 → ⊥) → slice_get (unit_tree front.nodes) i ≡ Some item → option_map item_name (slice_get (unit_tree front.nodes) i) ≡ Some spelt → false ≡ is_among (map item_name (front_items front)) spelt → false ≡ is_library spelt → IfOk r (λ formed. formed ≡ formed_content (front_items front) all item) → IfOk r (λ formed. Some formed ≡ option_map (formed_alone (front_items front) all) (slice_get (unit_tree front.nodes) i))
content_told front all i item spelt (Err fault) at some is named_so free library h = tt
content_told front all i item spelt (Ok formed) at some is named_so free library h =
    let named_is : item_name item ≡ spelt = (let e : Some (item_name item) ≡ Some spelt = sym (ap (option_map item_name) is) ∙ named_so in cc (e)) in
    let own : free_name (front_items front) item ≡ true = ap (λ n. not (is_among (map item_name (front_items front)) n) && not (is_library n)) named_is ∙ (ap (λ b. not b && not (is_library spelt)) (sym free) ∙ ap (λ b. not b) (sym library)) in
    let before : front_items front ≡ take i (unit_tree front.nodes) = ap (λ n. take n (unit_tree front.nodes)) (sym at) in
    let nonempty : front_items front ≡ [] → ⊥ = λ none. take_some (unit_tree front.nodes) i item some is (sym before ∙ none) in
    ap Some (h ∙ sym (alone_by (front_items front) all item nonempty own)) ∙ sym (ap (option_map (formed_alone (front_items front) all)) is)
