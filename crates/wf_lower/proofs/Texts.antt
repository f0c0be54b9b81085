-- The text of a unit grows by items.
use Rattle.std.proofs.Common.{◌≡◌, ◌∙◌, ap, sym, subst, ℕ, zero, suc, ◌+◌, ◌<◌, ◌≤◌, Bool, true, false, ◌||◌, if◌then◌else◌, Option, Some, Result, Ok, Err, OnOk, List, [], ◌∷◌, ◌++◌, drop, get_or, length, map, replicate, refl, arith, length-append}
use Rattle.std.specs.Prelude.{slice_get, unwrap_or}
use Rattle.wf_text.specs.declared.faults.NoMemory.{NoMemory}
use Rattle.c_text.specs.declared.ids.CNameId.{CNameId}
use Rattle.c_text.specs.declared.ids.CStringId.{CStringId}
use Rattle.c_text.specs.declared.nodes.CItem.{CItem}
use Rattle.c_text.specs.declared.nodes.CItem.TheVariants as item
use Rattle.c_text.specs.CFits.{FitsItem}
use Rattle.c_text.specs.CNodes.{Nodes, bytes_at, expr_of, code_of, made_item, unit_tree}
use Rattle.c_text.specs.CUnit.{IsSound}
use Rattle.c_text.specs.CTree.{ItemTree, text_item}
use Rattle.c_text.proofs.Arena.{slice_get-seam}
use Rattle.c_text.proofs.Trees.{append_nil, bytes_at-front}
use Rattle.wf_exprs.specs.Grown.{Grows, HasNamed}
use Rattle.wf_exprs.specs.Names.{status_name}
use Rattle.wf_exprs_nodes.specs.Growth.{GrowsBy}
use Rattle.wf_exprs_nodes.specs.Marks.{AreThose, Marks, is_marked}
use Rattle.wf_exprs_nodes.proofs.ItemLaws.{by_after, unit_kept}
use Rattle.wf_exprs_nodes.proofs.MarkLaws.{none_marked, those_still}
use Rattle.wf_lower.specs.Made.{AreRead, FitsFunction, FitFunctions, HasFunctionTrees, item_trees}
use Rattle.wf_lower.specs.Unit.{helper_name, is_read_in, is_used, used_helpers, used_texts}
use Rattle.wf_lower.proofs.Kept.{Keeps, keeps, keeps_by, functions_kept}
use Rattle.wf_lower.proofs.Walks.{dropped, none_left, to_suc}

or_assoc : (a b c : Bool) → ((a || b) || c) ≡ (a || (b || c))
or_assoc true b c = refl
or_assoc false b c = refl

or_false : (a : Bool) → (a || false) ≡ a
or_false true = refl
or_false false = refl

assoc : {A : Type 0} (xs ys zs : List A) → (xs ++ ys) ++ zs ≡ xs ++ (ys ++ zs)
assoc [] ys zs = refl
assoc (x ∷ xs) ys zs = ap (λ l. x ∷ l) (assoc xs ys zs)

pub by_on : {a b c : Nodes} (xs ys : List ItemTree) → GrowsBy xs a b → GrowsBy ys b c → GrowsBy (xs ++ ys) a c
by_on {a} xs ys g h = record {
  more_names = λ n k. h.more_names n (g.more_names n k);
  more_exprs = λ e k. h.more_exprs e (g.more_exprs e k);
  more_stmts = λ s k. h.more_stmts s (g.more_stmts s k);
  names = λ n k. h.names n (g.more_names n k) ∙ g.names n k;
  exprs = λ e k. h.exprs e (g.more_exprs e k) ∙ g.exprs e k;
  stmts = λ s k. h.stmts s (g.more_stmts s k) ∙ g.stmts s k;
  items = h.items ∙ ap (λ ts. ts ++ ys) g.items ∙ assoc (unit_tree a) xs ys;
}

pub by_list : {a b : Nodes} {xs ys : List ItemTree} → xs ≡ ys → GrowsBy xs a b → GrowsBy ys a b
by_list {a} {b} e h = subst (λ (l : List ItemTree). GrowsBy l a b) e h

pub by_same : (a : Nodes) → GrowsBy [] a a
by_same a = record { more_names = λ n k. k; more_exprs = λ e k. k; more_stmts = λ s k. k; names = λ n k. refl; exprs = λ e k. refl; stmts = λ s k. refl; items = sym (append_nil (unit_tree a)) }

-- No item was added.
pub by_none : (a b : Nodes) → IsSound a → Grows a b → GrowsBy [] a b
by_none a b sound g = record { more_names = g.more_names; more_exprs = g.more_exprs; more_stmts = g.more_stmts; names = g.names; exprs = g.exprs; stmts = g.stmts; items = unit_kept a b g sound ∙ sym (append_nil (unit_tree a)) }

-- A string is added.
abbrev with_string : Nodes → List ℕ → Nodes
with_string a bytes = record a { strings = a.strings ++ bytes ∷ [] }

item_same : (a : Nodes) (bytes : List ℕ) (x : CItem) → FitsItem a x → made_item (with_string a bytes) x ≡ made_item a x
unfolding expr_of code_of
item_same a bytes (item.Struct fields n) h = refl
item_same a bytes (item.Text n s) h = ap (text_item (bytes_at a.names n.0)) (bytes_at-front a.strings (bytes ∷ []) s.0 h.1)
item_same a bytes (item.Function linkage result n params locals body) h = refl

items_same : (a : Nodes) (bytes : List ℕ) (xs : List CItem) → ((i : ℕ) (x : CItem) → slice_get xs i ≡ Some x → FitsItem a x) → map (made_item (with_string a bytes)) xs ≡ map (made_item a) xs
items_same a bytes [] h = refl
items_same a bytes (x ∷ xs) h = ap (λ t. t ∷ map (made_item (with_string a bytes)) xs) (item_same a bytes x (h 0 x refl)) ∙ ap (λ ts. made_item a x ∷ ts) (items_same a bytes xs (λ i y is. h (suc i) y is))

string_added : (a : Nodes) (bytes : List ℕ) → IsSound a → GrowsBy [] a (with_string a bytes)
unfolding expr_of code_of unit_tree
string_added a bytes sound = record { more_names = λ n k. k; more_exprs = λ e k. k; more_stmts = λ s k. k; names = λ n k. refl; exprs = λ e k. refl; stmts = λ s k. refl; items = items_same a bytes a.items sound.items ∙ sym (append_nil (map (made_item a) a.items)) }

pub text_added : (a b c : Nodes) (bytes : List ℕ) (name : CNameId) (s : CStringId) → IsSound a → b ≡ record a { strings = a.strings ++ bytes ∷ [] } → s.0 ≡ length a.strings → GrowsBy (made_item b (item.Text name s) ∷ []) b c → GrowsBy (text_item (bytes_at a.names name.0) bytes ∷ []) a c
text_added a b c bytes name s sound e is h =
    let P : Nodes → Type 0 = λ n. GrowsBy (made_item n (item.Text name s) ∷ []) n c in
    let there : GrowsBy (made_item (with_string a bytes) (item.Text name s) ∷ []) (with_string a bytes) c = subst P e h in
    let last : slice_get (a.strings ++ bytes ∷ []) s.0 ≡ Some bytes = ap (slice_get (a.strings ++ bytes ∷ [])) is ∙ slice_get-seam a.strings bytes [] in
    let same : made_item (with_string a bytes) (item.Text name s) ≡ text_item (bytes_at a.names name.0) bytes = ap (λ o. text_item (bytes_at a.names name.0) (unwrap_or o [])) last in
    by_list (ap (λ t. t ∷ []) same) (by_on [] (made_item (with_string a bytes) (item.Text name s) ∷ []) (string_added a bytes sound) there)

-- Functions stay what they are.
pub trees_same : {a b : Nodes} (xs : List CItem) → Keeps a b → FitFunctions a xs → HasFunctionTrees b xs (item_trees a xs)
trees_same {a} {b} xs k h = functions_kept a b k (record { there = h; are = refl })

pub fit_grown : {a b : Nodes} (xs : List CItem) → Keeps a b → FitFunctions a xs → FitFunctions b xs
fit_grown xs k h = (trees_same xs k h).there

pub same_grown : {a b : Nodes} (xs : List CItem) → Keeps a b → FitFunctions a xs → item_trees b xs ≡ item_trees a xs
same_grown xs k h = (trees_same xs k h).are

-- The function with a number in a list, and those after it.
fit_suc : (nodes : Nodes) (xs : List CItem) (i : ℕ) (d : CItem) → i < length xs → FitFunctions nodes (drop i xs) → FitsFunction nodes (get_or xs i d) × FitFunctions nodes (drop (suc i) xs)
fit_suc nodes [] i d h k = absurd (omega (arith, h))
fit_suc nodes (x ∷ xs) zero d h k = k
fit_suc nodes (x ∷ xs) (suc i) d h k = fit_suc nodes xs i d (omega (arith, h)) k

module _ (nodes : Nodes) (xs : List CItem) (i : ℕ) (x : CItem) (is : x ≡ get_or xs i x) (h : i < length xs) where
  pub fit_here : FitFunctions nodes (drop i xs) → FitsFunction nodes x
  fit_here k = subst (λ (y : CItem). FitsFunction nodes y) (sym is) (fit_suc nodes xs i x h k).0

  pub fit_rest : FitFunctions nodes (drop i xs) → FitFunctions nodes (drop (i + 1) xs)
  fit_rest k = let P : ℕ → Type 0 = λ n. FitFunctions nodes (drop n xs) in subst P (sym (to_suc i)) (fit_suc nodes xs i x h k).1

  -- Whether functions read a name, function by function.
  used_next : (name : List ℕ) → is_used (item_trees nodes (drop i xs)) name ≡ (is_read_in name (made_item nodes x) || is_used (item_trees nodes (drop (i + 1) xs)) name)
  used_next name =
      ap (λ (l : List CItem). is_used (item_trees nodes l) name) (dropped xs i x h)
      ∙ ap (λ (y : CItem). is_read_in name (made_item nodes y) || is_used (item_trees nodes (drop (i + 1) xs)) name) (sym is)

  -- What the names that are read and those that are left come to stays `total`.
  pub names_on : (before after : List Bool) (total : List ℕ → Bool) → Marks (λ name. is_read_in name (made_item nodes x)) nodes.names before after
      → ((name : List ℕ) → (is_marked nodes.names before name || is_used (item_trees nodes (drop i xs)) name) ≡ total name) → (name : List ℕ) → (is_marked nodes.names after name || is_used (item_trees nodes (drop (i + 1) xs)) name) ≡ total name
  names_on before after total marks left = λ name.
      ap (λ b. b || is_used (item_trees nodes (drop (i + 1) xs)) name) (marks name)
      ∙ or_assoc (is_marked nodes.names before name) (is_read_in name (made_item nodes x)) (is_used (item_trees nodes (drop (i + 1) xs)) name)
      ∙ ap (λ b. is_marked nodes.names before name || b) (sym (used_next name))
      ∙ left name

pub names_first : (nodes : Nodes) (fs : List CItem) (flags : List Bool) → flags ≡ replicate (length nodes.names) false → (name : List ℕ) → (is_marked nodes.names flags name || is_used (item_trees nodes fs) name) ≡ is_used (item_trees nodes fs) name
names_first nodes fs flags e = λ name. ap (λ b. b || is_used (item_trees nodes fs) name) (ap (λ l. is_marked nodes.names l name) e ∙ none_marked nodes.names 0 (length nodes.names) name)

pub names_end : (nodes : Nodes) (flags : List Bool) (total : List ℕ → Bool) (xs : List CItem) (i : ℕ) → length xs ≤ i → length flags ≡ length nodes.names
    → ((name : List ℕ) → (is_marked nodes.names flags name || is_used (item_trees nodes (drop i xs)) name) ≡ total name) → AreThose total nodes.names flags
names_end nodes flags total xs i h sized left = record {
  within = omega (arith, sized);
  are = λ name. sym (or_false (is_marked nodes.names flags name)) ∙ ap (λ (l : List CItem). is_marked nodes.names flags name || is_used (item_trees nodes l) name) (sym (none_left xs i h)) ∙ left name;
}

-- What functions read stays told while the unit grows.
pub still_read : {a b : Nodes} {flags : List Bool} (functions : List ItemTree) → Keeps a b → AreRead functions a.names flags → AreRead functions b.names flags
still_read {a} {b} {flags} functions k are = those_still (λ name. is_used functions name) a.names b.names flags k.more_names k.names are

-- A name is used where it is one of those that are read.
module _ (a b : Nodes) (flags : List Bool) (name : ℕ) (spelt : List ℕ) (g : Grows a b) (named : HasNamed b name spelt) (functions : List ItemTree) (are : AreRead functions a.names flags) where
  used_as : (told : Bool) → ((reads : List ℕ → Bool) → AreThose reads b.names flags → told ≡ reads (bytes_at b.names name)) → is_used functions spelt ≡ told
  used_as told tells = ap (λ x. is_used functions x) (sym named.is) ∙ sym (tells (λ x. is_used functions x) (still_read functions (keeps g) are))

-- Items were added, which with those that are left are all.
pub record Added (old new : Nodes) (others all : List ItemTree) : Type 0 where
  pub added : List ItemTree
  pub grows : GrowsBy added old new
  pub left : added ++ others ≡ all

-- A status stands in the text where it is used.
module _ (a b c : Nodes) (read : List Bool) (n name : ℕ) (o : Option (List ℕ)) (bytes : List ℕ) (sound : IsSound a) (g : Grows a b) (named : HasNamed b name (status_name n)) where
  pub text_used : (r : Result (Unit {0}) NoMemory) → o ≡ Some bytes → ((reads : List ℕ → Bool) → AreThose reads b.names read → true ≡ reads (bytes_at b.names name))
      → OnOk r (GrowsBy (text_item (bytes_at b.names name) bytes ∷ []) b c)
      → OnOk r ((functions : List ItemTree) → AreRead functions a.names read → (text : List ℕ) → o ≡ Some text → GrowsBy (used_texts functions n (text ∷ [])) a c)
  text_used (Ok u) known used h = λ functions are text is.
      let there : is_used functions (status_name n) ≡ true = used_as a b read name (status_name n) g named functions are true used in
      let e : bytes ≡ text = cc (known, is) in
      let same : text_item (bytes_at b.names name) bytes ∷ [] ≡ used_texts functions n (text ∷ []) =
      ap (λ x. text_item x bytes ∷ []) named.is ∙ ap (λ x. text_item (status_name n) x ∷ []) e ∙ ap (λ q. if q then text_item (status_name n) text ∷ [] else []) (sym there) in
      by_list same (by_after a b c (text_item (bytes_at b.names name) bytes ∷ []) sound g h)
  text_used (Err refused) known used h = h

  pub text_unused : ((reads : List ℕ → Bool) → AreThose reads b.names read → false ≡ reads (bytes_at b.names name)) → (functions : List ItemTree) → AreRead functions a.names read → (text : List ℕ) → o ≡ Some text → GrowsBy (used_texts functions n (text ∷ [])) a b
  text_unused unused = λ functions are text is.
      let there : is_used functions (status_name n) ≡ false = used_as a b read name (status_name n) g named functions are false unused in
      by_list (ap (λ q. if q then text_item (status_name n) text ∷ [] else []) (sym there)) (by_none a b sound g)

-- A string has the last number.
pub text_fits : (a b : Nodes) (bytes : List ℕ) (name : CNameId) (s : CStringId) → name.0 < length a.names → b ≡ record a { strings = a.strings ++ bytes ∷ [] } → s.0 ≡ length a.strings → FitsItem b (item.Text name s)
text_fits a b bytes name s there e is =
    let P : Nodes → Type 0 = λ n. FitsItem n (item.Text name s) in
    let l = length-append a.strings (bytes ∷ []) in
    let last : s.0 < length (a.strings ++ bytes ∷ []) = omega (arith, l, is) in
    subst P (sym e) (there, last)

pub text_put : (a b c : Nodes) (bytes : List ℕ) (name : CNameId) (s : CStringId) (r : Result (Unit {0}) NoMemory) → IsSound a → b ≡ record a { strings = a.strings ++ bytes ∷ [] } → s.0 ≡ length a.strings
    → OnOk r (GrowsBy (made_item b (item.Text name s) ∷ []) b c) → OnOk r (GrowsBy (text_item (bytes_at a.names name.0) bytes ∷ []) a c)
text_put a b c bytes name s (Ok u) sound e is h = text_added a b c bytes name s sound e is h
text_put a b c bytes name s (Err refused) sound e is h = h

-- A helper stands in the text where it is used.
module _ (a b c : Nodes) (read : List Bool) (name : ℕ) (it : ItemTree) (sound : IsSound a) (g : Grows a b) (named : HasNamed b name (helper_name it)) where
  pub helper_used : (r : Result (Unit {0}) NoMemory) → ((reads : List ℕ → Bool) → AreThose reads b.names read → true ≡ reads (bytes_at b.names name)) → OnOk r (GrowsBy (it ∷ []) b c) → OnOk r ((functions : List ItemTree) → AreRead functions a.names read → GrowsBy (used_helpers functions (it ∷ [])) a c)
  helper_used (Ok u) used h = λ functions are.
      let there : is_used functions (helper_name it) ≡ true = used_as a b read name (helper_name it) g named functions are true used in
      by_list (ap (λ q. if q then it ∷ [] else []) (sym there)) (by_after a b c (it ∷ []) sound g h)
  helper_used (Err refused) used h = h

  pub helper_unused : ((reads : List ℕ → Bool) → AreThose reads b.names read → false ≡ reads (bytes_at b.names name)) → (functions : List ItemTree) → AreRead functions a.names read → GrowsBy (used_helpers functions (it ∷ [])) a b
  helper_unused unused = λ functions are.
      let there : is_used functions (helper_name it) ≡ false = used_as a b read name (helper_name it) g named functions are false unused in
      by_list (ap (λ q. if q then it ∷ [] else []) (sym there)) (by_none a b sound g)

helpers_both : (functions xs ys : List ItemTree) → used_helpers functions (xs ++ ys) ≡ used_helpers functions xs ++ used_helpers functions ys
helpers_both functions [] ys = refl
helpers_both functions (x ∷ xs) ys = ap (λ l. if is_used functions (helper_name x) then x ∷ l else l) (helpers_both functions xs ys) ∙ one_more (is_used functions (helper_name x))
  where
    one_more : (b : Bool) → (if b then x ∷ (used_helpers functions xs ++ used_helpers functions ys) else (used_helpers functions xs ++ used_helpers functions ys)) ≡ (if b then x ∷ used_helpers functions xs else used_helpers functions xs) ++ used_helpers functions ys
    one_more true = refl
    one_more false = refl

module _ (a b c : Nodes) (read : List Bool) (xs ys : List ItemTree) where
  pub helpers_on : ((functions : List ItemTree) → AreRead functions a.names read → GrowsBy (used_helpers functions xs) a b) → ((functions : List ItemTree) → AreRead functions b.names read → GrowsBy (used_helpers functions ys) b c)
      → (functions : List ItemTree) → AreRead functions a.names read → GrowsBy (used_helpers functions (xs ++ ys)) a c
  helpers_on g h = λ functions are.
      let first = g functions are in
      by_list (sym (helpers_both functions xs ys)) (by_on (used_helpers functions xs) (used_helpers functions ys) first (h functions (still_read functions (keeps_by first) are)))

  pub helpers_then : (r : Result (Unit {0}) NoMemory) → ((functions : List ItemTree) → AreRead functions a.names read → GrowsBy (used_helpers functions xs) a b) → OnOk r ((functions : List ItemTree) → AreRead functions b.names read → GrowsBy (used_helpers functions ys) b c)
      → OnOk r ((functions : List ItemTree) → AreRead functions a.names read → GrowsBy (used_helpers functions (xs ++ ys)) a c)
  helpers_then (Ok u) g h = helpers_on g h
  helpers_then (Err refused) g h = h

-- The functions themselves, item by item.
module _ (b c : Nodes) (added total : List ItemTree) (x : CItem) (xs ys : List CItem) (e : xs ≡ x ∷ ys) (left : added ++ item_trees b xs ≡ total) (fit : FitFunctions b xs) where
  pub item_fits : FitsItem b x
  item_fits = fits x (subst (λ (l : List CItem). FitFunctions b l) e fit).0
    where
      fits : (y : CItem) → FitsFunction b y → FitsItem b y
      fits (item.Struct fields n) h = absurd h
      fits (item.Text n s) h = absurd h
      fits (item.Function linkage result n params locals body) h = h

  pub items_fit : GrowsBy (made_item b x ∷ []) b c → FitFunctions c ys
  items_fit h = fit_grown ys (keeps_by h) (subst (λ (l : List CItem). FitFunctions b l) e fit).1

  pub items_left : GrowsBy (made_item b x ∷ []) b c → (added ++ made_item b x ∷ []) ++ item_trees c ys ≡ total
  items_left h =
      let rest : item_trees c ys ≡ item_trees b ys = same_grown ys (keeps_by h) (subst (λ (l : List CItem). FitFunctions b l) e fit).1 in
      ap (λ (l : List ItemTree). (added ++ made_item b x ∷ []) ++ l) rest ∙ assoc added (made_item b x ∷ []) (item_trees b ys) ∙ ap (λ (l : List CItem). added ++ item_trees b l) (sym e) ∙ left

pub items_over : (b : Nodes) (added total : List ItemTree) (xs : List CItem) → length xs ≡ 0 → added ++ item_trees b xs ≡ total → added ≡ total
items_over b added total [] h left = sym (append_nil added) ∙ left
items_over b added total (x ∷ xs) h left = absurd (omega (arith, h))
