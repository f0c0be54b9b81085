-- Loops that change each element of a list, or add what stands for each.
use Rattle.std.proofs.Common.{◌≡◌, ℕ, ◌+◌, ◌<◌, ◌≤◌, List, [], ◌∷◌, ◌++◌, length, map, take, drop, get_or, set, Some, sym, ap, ◌∙◌, arith}
use Rattle.std.specs.Prelude.{All, slice_get}
use Rattle.std.proofs.lemmas.List.{drop-set-lt, drop_more, get_or-map, map-set, map_more, map_push, set-get_or, take_all, take_more_set}
use Rattle.std.proofs.lemmas.List.Elements.{All-push, All-same}
use Rattle.std.proofs.lemmas.Option.{slice_get-get_or}
use Rattle.wf_meaning.proofs.Lists2.{some_same}

-- Two lists with the same rest have the same element there.
pub same-here : {X : Type 0} (xs old : List X) (i : ℕ) (d : X) → i < length xs → length xs ≡ length old → drop i xs ≡ drop i old → get_or xs i d ≡ get_or old i d
same-here xs old i d h long rest =
    let e : get_or xs i d ∷ drop (i + 1) xs ≡ get_or old i d ∷ drop (i + 1) old = sym (drop_more xs i d h) ∙ rest ∙ drop_more old i d (omega (arith, h, long)) in
    cc (e)

pub same-rest : {X : Type 0} (xs old : List X) (i : ℕ) (d x : X) → i < length xs → length xs ≡ length old → drop i xs ≡ drop i old → drop (i + 1) (set xs i x) ≡ drop (i + 1) old
same-rest xs old i d x h long rest =
    let e : get_or xs i d ∷ drop (i + 1) xs ≡ get_or old i d ∷ drop (i + 1) old = sym (drop_more xs i d h) ∙ rest ∙ drop_more old i d (omega (arith, h, long)) in
    let same : drop (i + 1) xs ≡ drop (i + 1) old = cc (e) in
    drop-set-lt (i + 1) xs i x (omega arith) ∙ same

-- One element more is changed.
pub one-changed : {X A : Type 0} (v : X → A) (g : A → A) (xs old : List X) (i : ℕ) (d x : X) → i < length xs → length xs ≡ length old → drop i xs ≡ drop i old → map v (take i xs) ≡ map g (map v (take i old)) → v x ≡ g (v (get_or xs i d))
    → map v (take (i + 1) (set xs i x)) ≡ map g (map v (take (i + 1) old))
one-changed v g xs old i d x h long rest so_far new =
    let here : v x ≡ g (v (get_or old i d)) = new ∙ ap (λ y. g (v y)) (same-here xs old i d h long rest) in
    ap (map v) (take_more_set xs i x h) ∙ map_push v (take i xs) x ∙ ap (λ ys. ys ++ v x ∷ []) so_far ∙ ap (λ y. map g (map v (take i old)) ++ y ∷ []) here
    ∙ sym (ap (map g) (map_more v old i d (omega (arith, h, long))) ∙ map_push g (map v (take i old)) (v (get_or old i d)))

-- What is seen of an element that is changed stays.
pub seen-again : {X A : Type 0} (v : X → A) (xs : List X) (i : ℕ) (d x : X) → i < length xs → v x ≡ v (get_or xs i d) → map v (set xs i x) ≡ map v xs
seen-again v xs i d x h e = map-set v xs i x ∙ ap (set (map v xs) i) (e ∙ sym (get_or-map v xs i d (v d) h)) ∙ set-get_or (map v xs) i (v d)

pub all-changed : {X : Type 0} (P : X → Type 0) (xs : List X) (i : ℕ) (x : X) → i < length xs → All P (take i xs) → P x → All P (take (i + 1) (set xs i x))
all-changed P xs i x h so_far new = All-same P _ _ (take_more_set xs i x h) (All-push P (take i xs) x so_far new)

pub all-at-last : {X : Type 0} (P : X → Type 0) (xs : List X) (n : ℕ) → length xs ≤ n → All P (take n xs) → All P xs
all-at-last P xs n h all = All-same P _ _ (sym (take_all n xs h)) all

-- One more is added.
pub one-added : {X Y A : Type 0} (v : X → A) (f : Y → A) (xs new : List X) (ys : List Y) (i : ℕ) (x : X) (y : Y) → slice_get ys i ≡ Some y → i < length ys → new ≡ xs ++ x ∷ [] → map v xs ≡ map f (take i ys) → v x ≡ f y
    → map v new ≡ map f (take (i + 1) ys)
one-added v f xs new ys i x y at h added so_far e =
    let here : get_or ys i y ≡ y = some_same _ _ (sym (slice_get-get_or ys i y h) ∙ at) in
    ap (map v) added ∙ map_push v xs x ∙ ap (λ zs. zs ++ v x ∷ []) so_far ∙ ap (λ a. map f (take i ys) ++ a ∷ []) (e ∙ sym (ap f here)) ∙ sym (map_more f ys i y h)

-- What is read at an index.
pub read-at : {X : Type 0} (xs : List X) (i : ℕ) (x : X) → i < length xs → x ≡ get_or xs i x → slice_get xs i ≡ Some x
read-at xs i x h e = slice_get-get_or xs i x h ∙ ap (λ y. Some y) (sym e)

pub read-same : {X : Type 0} (xs : List X) (i : ℕ) (x y : X) → i < length xs → x ≡ get_or xs i x → y ≡ get_or xs i y → x ≡ y
read-same xs i x y h e f = some_same _ _ (sym (read-at xs i x h e) ∙ read-at xs i y h f)
