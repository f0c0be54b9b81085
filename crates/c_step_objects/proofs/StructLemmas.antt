-- The table of structs grows, item by item.
use Rattle.std.proofs.Common.{◌≡◌, ℕ, suc, ◌+◌, ◌≤◌, if◌then◌else◌, List, [], ◌∷◌, ◌++◌, length, map, take, Some, refl, sym, ap, ◌∙◌}
use Rattle.std.specs.Prelude.{slice_get, reverse, bytes_eq}
use Rattle.std.proofs.lemmas.List.{append-nil, reverse-append, map-append}
use Rattle.c_text.specs.CTree.{FieldTree, ItemTree, struct_item, text_item}
use Rattle.c_text.specs.CNodes.{Nodes, unit_tree}
use Rattle.c_meaning.specs.CTypes.{StructDecl, structs_of, texts_of}
use Rattle.c_meaning.specs.CMemory.{Object}
use Rattle.c_meaning.specs.CRun.{text_object, bytes_object}
use Rattle.c_meaning.specs.CCall.{program_of}
use Rattle.c_mem.specs.declared.decls.FieldDecl.{FieldDecl}
use Rattle.c_form_exprs.proofs.GrowLemmas.{structs_append, texts_append, take_one_more}
use Rattle.c_step_load_exprs.proofs.PlaceLemmas.{all_items}
use Rattle.c_step_objects.specs.Shapes.{ShapeView, sizes_inside, own_fields, all_shapes, number_in, HasNumbers}
use Rattle.c_step_objects.specs.Structs.{structs_before}
use Rattle.c_step_objects.specs.Texts.{texts_before}
use Rattle.c_step_objects.proofs.ShapeLemmas.{shapes_length}

pub numbers_more : (numbers new : List (List ℕ × ℕ)) (structs : List StructDecl) (s : StructDecl) (number : ℕ) → ((q : List ℕ) → number_in new q ≡ (if bytes_eq s.name q then number else number_in numbers q)) → number ≡ suc (length structs) → HasNumbers numbers structs → HasNumbers new (s ∷ structs)
numbers_more numbers new structs s number put is h q = put q ∙ rw (is, h q) refl

pub shapes_more : (shapes new : List ShapeView) (structs : List StructDecl) (s : StructDecl) (fields : List FieldDecl) (size : ℕ) → new ≡ shapes ++ record { fields = fields; size = size } ∷ [] → fields ≡ own_fields structs s.fields → size ≡ suc (sizes_inside shapes fields) → shapes ≡ all_shapes structs → new ≡ all_shapes (s ∷ structs)
shapes_more shapes new structs s fields size put own sized is = rw (put, sized, own, is) refl

pub number_next : (shapes : List ShapeView) (structs : List StructDecl) (number : ℕ) → number ≡ length shapes → shapes ≡ all_shapes structs → number ≡ suc (length structs)
number_next shapes structs number is all = is ∙ (ap length all ∙ shapes_length structs)

-- Items.
pub no_struct : (nodes : Nodes) (i : ℕ) (item : ItemTree) → slice_get (unit_tree nodes) i ≡ Some item → structs_of (item ∷ []) ≡ [] → structs_before nodes (i + 1) ≡ structs_before nodes i
no_struct nodes i item is none = ap reverse (ap structs_of (take_one_more (unit_tree nodes) i item is) ∙ (structs_append (take i (unit_tree nodes)) (item ∷ []) ∙ (ap (λ (ss : List StructDecl). structs_of (take i (unit_tree nodes)) ++ ss) none ∙ append-nil (structs_of (take i (unit_tree nodes))))))

pub struct_next : (nodes : Nodes) (i : ℕ) (fields : List FieldTree) (name : List ℕ) → slice_get (unit_tree nodes) i ≡ Some (struct_item fields name) → structs_before nodes (i + 1) ≡ record { fields = fields; name = name } ∷ structs_before nodes i
struct_next nodes i fields name is =
    ap (λ (items : List ItemTree). reverse (structs_of items)) (take_one_more (unit_tree nodes) i (struct_item fields name) is)
    ∙ (ap reverse (structs_append (take i (unit_tree nodes)) (struct_item fields name ∷ []))
    ∙ reverse-append (structs_of (take i (unit_tree nodes))) (record { fields = fields; name = name } ∷ []))

pub all_structs : (nodes : Nodes) (i : ℕ) → length nodes.items ≤ i → structs_before nodes i ≡ (program_of (unit_tree nodes)).structs
all_structs nodes i past = ap (λ (items : List ItemTree). reverse (structs_of items)) (all_items nodes i past)

pub texts_next : (nodes : Nodes) (i : ℕ) (item : ItemTree) → slice_get (unit_tree nodes) i ≡ Some item → texts_before nodes (i + 1) ≡ texts_before nodes i ++ map text_object (texts_of (item ∷ []))
texts_next nodes i item is =
    ap (λ (items : List ItemTree). map text_object (texts_of items)) (take_one_more (unit_tree nodes) i item is)
    ∙ (ap (map text_object) (texts_append (take i (unit_tree nodes)) (item ∷ []))
    ∙ map-append text_object (texts_of (take i (unit_tree nodes))) (texts_of (item ∷ [])))

pub no_text : (nodes : Nodes) (i : ℕ) (item : ItemTree) → slice_get (unit_tree nodes) i ≡ Some item → texts_of (item ∷ []) ≡ [] → texts_before nodes (i + 1) ≡ texts_before nodes i
no_text nodes i item is none = texts_next nodes i item is ∙ (ap (λ ts. texts_before nodes i ++ map text_object ts) none ∙ append-nil (texts_before nodes i))

pub all_texts : (nodes : Nodes) (i : ℕ) → length nodes.items ≤ i → texts_before nodes i ≡ map text_object (texts_of (unit_tree nodes))
all_texts nodes i past = ap (λ (items : List ItemTree). map text_object (texts_of items)) (all_items nodes i past)

pub text_added : (nodes : Nodes) (i : ℕ) (name bytes : List ℕ) (old new : List Object) (object : Object) (given : List ℕ) → slice_get (unit_tree nodes) i ≡ Some (text_item name bytes) → new ≡ old ++ object ∷ [] → object ≡ bytes_object given → given ≡ bytes ++ 0 ∷ [] → old ≡ texts_before nodes i → new ≡ texts_before nodes (i + 1)
text_added nodes i name bytes old new object given is put made ended so_far = rw (put, made, ended, so_far) (sym (texts_next nodes i (text_item name bytes) is))
