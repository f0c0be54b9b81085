-- What is left to be listed, when statements come to its end or go from it.
use Rattle.std.proofs.Common.{Result, Ok, Err, OnOk, ◌≡◌, ◌<◌, ◌+◌, ℕ, Bool, List, [], ◌∷◌, ◌++◌, map, drop, length, get_or, refl, sym, ◌∙◌, ap, subst, arith, append_assoc}
use Rattle.std.proofs.lemmas.List.{append-nil}
use Rattle.pens.proofs.Progress.{unroll}
use Rattle.c_text.specs.CNodes.{Nodes, code_of}
use Rattle.c_step_places.specs.declared.listing.Place.{Place}
use Rattle.c_step_places.specs.Places.{PlaceTree, places_of, place_in, HasPlace, HasPlaces, left_of, place_size, size_of}

pub left_push : (nodes : Nodes) (e : Bool) (ls : List Place) (l : Place) → left_of nodes e (ls ++ l ∷ []) ≡ places_of e l.number (code_of nodes l.stmt.0) ++ left_of nodes e ls
left_push nodes e [] l = sym (append-nil (places_of e l.number (code_of nodes l.stmt.0)))
left_push nodes e (x ∷ ls) l =
    ap (λ xs. xs ++ places_of e x.number (code_of nodes x.stmt.0)) (left_push nodes e ls l) ∙ append_assoc (places_of e l.number (code_of nodes l.stmt.0)) (left_of nodes e ls) (places_of e x.number (code_of nodes x.stmt.0))

pub size_push : (nodes : Nodes) (ls : List Place) (l : Place) → size_of nodes (ls ++ l ∷ []) ≡ size_of nodes ls + place_size nodes l
size_push nodes [] l = omega arith
size_push nodes (x ∷ ls) l = let rest = size_push nodes ls l in omega (arith, rest)

pub has_push : (nodes : Nodes) (ls : List Place) (l : Place) → HasPlaces nodes ls → HasPlace nodes l → HasPlaces nodes (ls ++ l ∷ [])
has_push nodes [] l h k = (k, tt)
has_push nodes (x ∷ ls) l h k = (h.0, has_push nodes ls l h.1 k)

pub has_last : (nodes : Nodes) (ls : List Place) (l : Place) → HasPlaces nodes (ls ++ l ∷ []) → HasPlaces nodes ls × HasPlace nodes l
has_last nodes [] l h = (tt, h.0)
has_last nodes (x ∷ ls) l h = let rest = has_last nodes ls l h.1 in ((h.0, rest.0), rest.1)

-- What is left after a line was put at the end.
pub put_left : (nodes : Nodes) (old new : List Place) (l : Place) → new ≡ old ++ l ∷ [] → (e : Bool) → left_of nodes e new ≡ places_of e l.number (code_of nodes l.stmt.0) ++ left_of nodes e old
put_left nodes old new l is e = ap (left_of nodes e) is ∙ left_push nodes e old l

pub put_size : (nodes : Nodes) (old new : List Place) (l : Place) → new ≡ old ++ l ∷ [] → size_of nodes new ≡ size_of nodes old + place_size nodes l
put_size nodes old new l is = ap (size_of nodes) is ∙ size_push nodes old l

pub put_has : (nodes : Nodes) (old new : List Place) (l : Place) → new ≡ old ++ l ∷ [] → HasPlaces nodes old → HasPlace nodes l → HasPlaces nodes new
put_has nodes old new l is h k = subst (λ (ls : List Place). HasPlaces nodes ls) (sym is) (has_push nodes old l h k)

-- A line that is taken from the end of what is left.
pub popped_has : (nodes : Nodes) (whole rest : List Place) (l : Place) → whole ≡ rest ++ l ∷ [] → HasPlaces nodes whole → HasPlaces nodes rest × HasPlace nodes l
popped_has nodes whole rest l is h = has_last nodes rest l (subst (λ (ls : List Place). HasPlaces nodes ls) is h)

pub listed_more : (nodes : Nodes) (e : Bool) (whole rest left' listed listed' : List Place) (l : Place) (all : List PlaceTree) → whole ≡ rest ++ l ∷ [] → map (place_in nodes) listed' ++ left_of nodes e left' ≡ map (place_in nodes) listed ++ (places_of e l.number (code_of nodes l.stmt.0) ++ left_of nodes e rest) → map (place_in nodes) listed ++ left_of nodes e whole ≡ all → map (place_in nodes) listed' ++ left_of nodes e left' ≡ all
listed_more nodes e whole rest left' listed listed' l all is step so_far = step ∙ (ap (λ xs. map (place_in nodes) listed ++ xs) (sym (put_left nodes rest whole l is e)) ∙ so_far)

pub all_listed : (nodes : Nodes) (e : Bool) (listed left : List Place) (all : List PlaceTree) → left ≡ [] → map (place_in nodes) listed ++ left_of nodes e left ≡ all → map (place_in nodes) listed ≡ all
all_listed nodes e listed left all none so_far = sym (append-nil (map (place_in nodes) listed)) ∙ (ap (λ ls. map (place_in nodes) listed ++ left_of nodes e ls) (sym none) ∙ so_far)

pub first_left : (nodes : Nodes) (e : Bool) (listed left : List Place) (xs : List PlaceTree) → listed ≡ [] → left_of nodes e left ≡ xs ++ left_of nodes e [] → map (place_in nodes) listed ++ left_of nodes e left ≡ xs
first_left nodes e listed left xs none is = ap (λ ls. map (place_in nodes) ls ++ left_of nodes e left) none ∙ (is ∙ append-nil xs)

pub told_ok : {A E P : Type 0} (r : Result A E) → P → OnOk r P
told_ok (Ok x) p = p
told_ok (Err fault) p = tt

pub none_left : {A : Type 0} (xs : List A) → length xs ≡ 0 → xs ≡ []
none_left [] is = refl
none_left (x ∷ xs) is = absurd (omega (arith, is))

abbrev pub no_place : Place
no_place = record { stmt = record { 0 = 0 }; number = 0 }

pub places_rest : (nodes : Nodes) (ls : List Place) (i : ℕ) → i < length ls → HasPlaces nodes (drop i ls) → HasPlaces nodes (drop (i + 1) ls)
places_rest nodes ls i within h = (subst (λ (xs : List Place). HasPlaces nodes xs) (unroll ls i no_place within) h).1

pub place_here : (nodes : Nodes) (ps : List Place) (i : ℕ) → i < length ps → HasPlaces nodes (drop i ps) → HasPlace nodes (get_or ps i no_place)
place_here nodes ps i within h = (subst (λ (xs : List Place). HasPlaces nodes xs) (unroll ps i no_place within) h).0
