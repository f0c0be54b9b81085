-- Tables of places, as names are added to them.
use Rattle.std.proofs.Common.{◌≡◌, ℕ, zero, suc, ◌+◌, ◌<◌, Bool, true, false, if◌then◌else◌, List, [], ◌∷◌, ◌++◌, length, map, find, Option, Some, None, is_none, position, refl, sym, ap, ◌∙◌, subst, arith, take, get_or, ◌≤◌}
use Rattle.std.specs.List.{slice_get}
use Rattle.std.specs.Option.{option_or, option_and_then}
use Rattle.std.specs.Str.{bytes_eq}
use Rattle.std.proofs.lemmas.List.{take_all, map-append, length-map, length-take-le}
use Rattle.std.proofs.lemmas.Option.{slice_get_within, slice_get-get_or}
use Rattle.c_text.proofs.Arena.{slice_get-front, slice_get-seam}
use Rattle.c_text.specs.CTree.{ItemTree, text_item}
use Rattle.c_text.specs.CNodes.{Nodes, bytes_at, field_tree, unit_tree}
use Rattle.c_text.specs.CFits.{HasFields}
use Rattle.c_text.specs.declared.nodes.CField.{CField}
use Rattle.c_text.proofs.Parts.{no_field}
use Rattle.c_meaning.specs.CTypes.{StructDecl, structs_of, texts_of, functions_of}
use Rattle.c_form_exprs.specs.Tables.{Table, named}
use Rattle.c_form_exprs.specs.Front.{Finds}
use Rattle.c_form_exprs.proofs.TableLemmas.{place_in, place_cons, place_end}
use Rattle.c_form_exprs.proofs.FrontLemmas.{bytes_eq-swap}
use Rattle.c_form_exprs.proofs.GrowLemmas.{named_end, taken_not, tells_more, finds_more, structs_append, texts_append, functions_append, take_one_more, tree_length}
use Rattle.c_step_load_exprs.specs.declared.numbers.Kind.{Kind}
use Rattle.c_step_load_exprs.specs.declared.numbers.Kind.TheVariants as kind
use Rattle.c_step_load_exprs.specs.Knowing.{HasPlaces, HasNamePlaces, HasFieldPlaces, HasStructs, names_of}

-- A name more.
places_fresh : (es : List (List ℕ × ℕ)) (names : List (List ℕ)) (name : List ℕ) (n : ℕ) → n ≡ length names → HasPlaces es names → HasPlaces (es ++ (name, n) ∷ []) (names ++ name ∷ [])
places_fresh es names name n at h q =
    named_end es name n q
    ∙ (ap (λ (o : Option ℕ). option_or o (if bytes_eq q name then Some n else None)) (h q)
    ∙ (ap (λ (b : Bool). option_or (position (λ name. bytes_eq name q) names) (if b then Some n else None)) (bytes_eq-swap q name)
    ∙ (ap (λ (k : ℕ). option_or (position (λ name. bytes_eq name q) names) (if bytes_eq name q then Some k else None)) at
    ∙ sym (place_end (λ name. bytes_eq name q) names name))))

places_taken : (es : List (List ℕ × ℕ)) (names : List (List ℕ)) (name : List ℕ) → false ≡ is_none (named es name) → HasPlaces es names → HasPlaces es (names ++ name ∷ [])
places_taken es names name taken h q = by (named es q) refl
  where
    by : (o : Option ℕ) → named es q ≡ o → named es q ≡ position (λ name. bytes_eq name q) (names ++ name ∷ [])
    by None e =
        let apart : bytes_eq name q ≡ false = bytes_eq-swap name q ∙ taken_not es name q taken e in
        e ∙ sym (place_end (λ name. bytes_eq name q) names name ∙ rw (apart, sym (h q) ∙ e) refl)
    by (Some k) e = e ∙ sym (place_end (λ name. bytes_eq name q) names name ∙ rw (sym (h q) ∙ e) refl)

pub places_more : (es new : List (List ℕ × ℕ)) (names : List (List ℕ)) (name : List ℕ) (n : ℕ) (fresh : Bool) → fresh ≡ is_none (named es name) → new ≡ (if fresh then es ++ (name, n) ∷ [] else es) → n ≡ length names → HasPlaces es names → HasPlaces new (names ++ name ∷ [])
places_more es new names name n true f g at h = subst (λ (xs : List (List ℕ × ℕ)). HasPlaces xs (names ++ name ∷ [])) (sym g) (places_fresh es names name n at h)
places_more es new names name n false f g at h = subst (λ (xs : List (List ℕ × ℕ)). HasPlaces xs (names ++ name ∷ [])) (sym g) (places_taken es names name f h)

-- What a table of places of names tells of those that have these names.
pub place_of : {A : Type 0} (name : A → List ℕ) (es : List (List ℕ × ℕ)) (xs : List A) → HasPlaces es (map name xs) → (q : List ℕ) → named es q ≡ position (λ x. bytes_eq (name x) q) xs
place_of name es xs h q = h q ∙ place_in (λ n. bytes_eq n q) name xs

-- What a table of names of a unit tells of those that have these names.
pub place_by : {A : Type 0} (name : A → List ℕ) (nodes : Nodes) (table : Table ℕ) (xs : List A) → HasNamePlaces nodes table (map name xs) → (n : ℕ) → named table.entries (bytes_at table.names n) ≡ position (λ x. bytes_eq (name x) (bytes_at nodes.names n)) xs
place_by name nodes table xs h n = rw h.same (place_of name table.entries xs h.places (bytes_at nodes.names n))

-- A name of the unit more.
pub name_more : (nodes : Nodes) (old new : Table ℕ) (names : List (List ℕ)) (k n : ℕ) (fresh : Bool) → new.names ≡ old.names → fresh ≡ is_none (named old.entries (bytes_at old.names k)) → new.entries ≡ (if fresh then old.entries ++ (bytes_at old.names k, n) ∷ [] else old.entries) → n ≡ length names → HasNamePlaces nodes old names → HasNamePlaces nodes new (names ++ bytes_at nodes.names k ∷ [])
name_more nodes old new names k n fresh same f g at h = record {
  same = same ∙ h.same;
  places = subst (λ (all : List (List ℕ)). HasPlaces new.entries (names ++ bytes_at all k ∷ [])) h.same (places_more old.entries new.entries names (bytes_at old.names k) n fresh f g at h.places);
}

-- A struct more, whose table of fields is the last one.
table_stays : (nodes : Nodes) (tables : List (Table ℕ)) (more : Table ℕ) (k : ℕ) (s : StructDecl) → HasFieldPlaces nodes tables k s → HasFieldPlaces nodes (tables ++ more ∷ []) k s
table_stays nodes tables more k s h = record { fields = h.fields; stands = slice_get-front tables (more ∷ []) k (slice_get_within tables k h.fields h.stands) ∙ h.stands; places = h.places }

pub struct_more : (nodes : Nodes) (tables after : List (Table ℕ)) (by_name new : Table ℕ) (before : List StructDecl) (struct : StructDecl) (table : Table ℕ) (k : ℕ) (fresh : Bool)
    → HasStructs nodes tables by_name before → HasNamePlaces nodes table (map (λ f. f.name) struct.fields) → after ≡ tables ++ table ∷ [] → k ≡ length tables → new.names ≡ by_name.names → fresh ≡ is_none (named by_name.entries struct.name) → new.entries ≡ (if fresh then by_name.entries ++ (struct.name, k) ∷ [] else by_name.entries)
    → HasStructs nodes after new (before ++ struct ∷ [])
struct_more nodes tables after by_name new before struct table k fresh h places more at same f g =
    let known : HasStructs nodes after by_name before = subst (λ (ts : List (Table ℕ)). HasStructs nodes ts by_name before) (sym more) (record {
      names = h.names;
      tells_all = λ q. finds_more (HasFieldPlaces nodes tables) (HasFieldPlaces nodes (tables ++ table ∷ [])) (table_stays nodes tables table) (named by_name.entries q) (find (λ s. bytes_eq s.name q) before) (h.tells_all q);
    }) in
    let stands : slice_get after k ≡ Some table = ap (λ (ts : List (Table ℕ)). slice_get ts k) more ∙ (ap (slice_get (tables ++ table ∷ [])) at ∙ slice_get-seam tables table []) in
    tells_more nodes (HasFieldPlaces nodes after) (λ s. s.name) by_name new before struct.name k struct fresh known refl (record { fields = table; stands = stands; places = places }) same f g

-- Items, one after the other.
abbrev pub no_item : ItemTree
no_item = text_item [] []

pub item_here : (nodes : Nodes) (i : ℕ) → i < length nodes.items → slice_get (unit_tree nodes) i ≡ Some (get_or (unit_tree nodes) i no_item)
item_here nodes i within = let l : length (unit_tree nodes) ≡ length nodes.items = tree_length nodes in slice_get-get_or (unit_tree nodes) i no_item (omega (arith, within, l))

pub all_items : (nodes : Nodes) (i : ℕ) → length nodes.items ≤ i → take i (unit_tree nodes) ≡ unit_tree nodes
all_items nodes i past = let l : length (unit_tree nodes) ≡ length nodes.items = tree_length nodes in take_all i (unit_tree nodes) (omega (arith, past, l))

pub names_more : (kind : Kind) (items : List ItemTree) (i : ℕ) (item : ItemTree) → slice_get items i ≡ Some item → names_of kind (take (i + 1) items) ≡ names_of kind (take i items) ++ names_of kind (item ∷ [])
names_more kind.Text items i item is = ap (names_of kind.Text) (take_one_more items i item is) ∙ (ap (map (λ t. t.name)) (texts_append (take i items) (item ∷ [])) ∙ map-append (λ t. t.name) (texts_of (take i items)) (texts_of (item ∷ [])))
names_more kind.Function items i item is = ap (names_of kind.Function) (take_one_more items i item is) ∙ (ap (map (λ f. f.name)) (functions_append (take i items) (item ∷ [])) ∙ map-append (λ f. f.name) (functions_of (take i items)) (functions_of (item ∷ [])))

pub structs_more : (items : List ItemTree) (i : ℕ) (item : ItemTree) → slice_get items i ≡ Some item → structs_of (take (i + 1) items) ≡ structs_of (take i items) ++ structs_of (item ∷ [])
structs_more items i item is = ap structs_of (take_one_more items i item is) ∙ structs_append (take i items) (item ∷ [])

-- Fields, one after the other.
pub field_name_has : (nodes : Nodes) (fs : List CField) (i : ℕ) → i < length fs → HasFields nodes fs → (get_or fs i no_field).name.0 < length nodes.names
field_name_has nodes [] i within h = absurd (omega (arith, within))
field_name_has nodes (f ∷ fs) zero within h = h.0.1
field_name_has nodes (f ∷ fs) (suc i) within h = field_name_has nodes fs i (omega (arith, within)) h.1

pub field_names : (nodes : Nodes) (fs : List CField) → map (λ f. f.name) (map (field_tree nodes.names) fs) ≡ map (λ f. bytes_at nodes.names f.name.0) fs
field_names nodes [] = refl
field_names nodes (f ∷ fs) = ap (λ (names : List (List ℕ)). bytes_at nodes.names f.name.0 ∷ names) (field_names nodes fs)

pub fields_more : (nodes : Nodes) (fs : List CField) (i : ℕ) (old new : Table ℕ) → i < length fs
    → ((n : Nodes) (names : List (List ℕ)) → i ≡ length names → HasNamePlaces n old names → HasNamePlaces n new (names ++ bytes_at n.names (get_or fs i no_field).name.0 ∷ []))
    → HasNamePlaces nodes old (map (λ f. bytes_at nodes.names f.name.0) (take i fs)) → HasNamePlaces nodes new (map (λ f. bytes_at nodes.names f.name.0) (take (i + 1) fs))
fields_more nodes fs i old new within told h =
    let one : CField → List ℕ = λ f. bytes_at nodes.names f.name.0 in
    let x : CField = get_or fs i no_field in
    let count : i ≡ length (map one (take i fs)) = sym (length-map (take i fs) one ∙ length-take-le i fs (omega (arith, within))) in
    let more : map one (take (i + 1) fs) ≡ map one (take i fs) ++ one x ∷ [] = ap (map one) (take_one_more fs i x (slice_get-get_or fs i no_field within)) ∙ map-append one (take i fs) (x ∷ []) in
    subst (HasNamePlaces nodes new) (sym more) (told nodes (map one (take i fs)) count h)

pub struct_field : (nodes : Nodes) (tables : List (Table ℕ)) (k : ℕ) (x : Option StructDecl) (table : Table ℕ) (q : List ℕ) → Finds (HasFieldPlaces nodes tables) (Some k) x → slice_get tables k ≡ Some table → named table.entries q ≡ option_and_then (λ it. position (λ f. bytes_eq f.name q) it.fields) x
struct_field nodes tables k x table q h is =
    let same : table ≡ h.2.fields = (let p = h.2.stands in cc (is, p)) in
    rw (h.1, same) (place_of (λ f. f.name) h.2.fields.entries h.0.fields h.2.places.places q)

pub table_names : (nodes : Nodes) (tables : List (Table ℕ)) (k : ℕ) (x : Option StructDecl) (table : Table ℕ) → Finds (HasFieldPlaces nodes tables) (Some k) x → slice_get tables k ≡ Some table → table.names ≡ nodes.names
table_names nodes tables k x table h is =
    let same : table ≡ h.2.fields = (let p = h.2.stands in cc (is, p)) in
    ap (λ (t : Table ℕ). t.names) same ∙ h.2.places.same

pub struct_found : (nodes : Nodes) (tables : List (Table ℕ)) (by_name : Table ℕ) (structs : List StructDecl) → HasStructs nodes tables by_name structs → (q : List ℕ) (r o : Option ℕ) → r ≡ named by_name.entries q → r ≡ o → Finds (HasFieldPlaces nodes tables) o (find (λ s. bytes_eq s.name q) structs)
struct_found nodes tables by_name structs h q r o is some = subst (λ (x : Option ℕ). Finds (HasFieldPlaces nodes tables) x (find (λ s. bytes_eq s.name q) structs)) (sym is ∙ some) (h.tells_all q)

pub no_struct_field : (nodes : Nodes) (tables : List (Table ℕ)) (x : Option StructDecl) (q : List ℕ) → Finds (HasFieldPlaces nodes tables) None x → None ≡ option_and_then (λ it. position (λ f. bytes_eq f.name q) it.fields) x
no_struct_field nodes tables x q h = rw h refl

pub table_within : (nodes : Nodes) (tables : List (Table ℕ)) (k : ℕ) (x : Option StructDecl) → Finds (HasFieldPlaces nodes tables) (Some k) x → k < length tables
table_within nodes tables k x h = slice_get_within tables k h.2.fields h.2.stands

-- One with a place is found.
pub place_found : {A : Type 0} (p : A → Bool) (xs : List A) (k : ℕ) → position p xs ≡ Some k → (y : A) × (find p xs ≡ Some y)
place_found {A} p [] k e = absurd (cc (e))
place_found {A} p (x ∷ xs) k e = by (p x) refl (position p xs) refl (place_found p xs)
  where
    by : (b : Bool) → p x ≡ b → (o : Option ℕ) → position p xs ≡ o → ((k : ℕ) → position p xs ≡ Some k → (y : A) × (find p xs ≡ Some y)) → (y : A) × (find p (x ∷ xs) ≡ Some y)
    by true t o f later = (x, rw t refl)
    by false t (Some j) f later = rw t (later j f)
    by false t None f later = absurd (let g : position p (x ∷ xs) ≡ None = place_cons p x xs ∙ rw (t, f) refl in cc (g, e))
