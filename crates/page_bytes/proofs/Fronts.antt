-- Bytes put behind the front of a page.
use Rattle.std.proofs.Common.{◌≡◌, ℕ, ◌+◌, ◌-◌, ◌≤◌, ◌<◌, get_or, List, [], ◌++◌, length, take, drop, refl, sym, ap, ◌∙◌, append_assoc, arith, replicate, take_all, length-append, append-nil, flat_map}
use Rattle.seg_words.proofs.Lemmas.{take_more, flat_map_more, drop-replicate, drop-append_seam, common_steps, length-flat_map-take}
use Rattle.seg_words.specs.Types.{BLOCK_SIZE}
use Rattle.page_bytes.specs.Types.{page_of, IsFront}
use borrow.Rule.Slice.PartMut.{put_mid}

pub take_front : (front rest : List ℕ) (at : ℕ) → length front ≡ at → take at (front ++ rest) ≡ front
take_front front rest at e = grind (arith, common_steps)

pub drop_front : (front rest : List ℕ) (at : ℕ) → length front ≡ at → drop at (front ++ rest) ≡ rest
drop_front front rest at e = rw (← e) (drop-append_seam front rest)

pub begun : (page : List ℕ) → page ≡ replicate BLOCK_SIZE 0 → IsFront page [] 0
begun page e = record { bytes = e; place = refl }

behind : (front bytes : List ℕ) (at k : ℕ) → at ≡ length front → k ≡ length bytes → put_mid at k (page_of front) bytes ≡ page_of (front ++ bytes)
behind front bytes at k h e =
    let zeros : List ℕ = replicate (BLOCK_SIZE - length front) 0 in
    let left : take at (page_of front) ≡ front = take_front front zeros at (sym h) in
    let right : drop at (page_of front) ≡ zeros = drop_front front zeros at (sym h) in
    let tail : drop (length bytes) zeros ≡ replicate (BLOCK_SIZE - length (front ++ bytes)) 0
    = drop-replicate (length bytes) (BLOCK_SIZE - length front) 0 ∙ ap (λ (n : ℕ). replicate n 0) (omega (arith, length-append front bytes)) in
    rw e (ap (λ (p : List ℕ). p ++ (bytes ++ drop (length bytes) (drop at (page_of front)))) left
    ∙ ap (λ (q : List ℕ). front ++ (bytes ++ drop (length bytes) q)) right
    ∙ ap (λ (q : List ℕ). front ++ (bytes ++ q)) tail
    ∙ sym (append_assoc front bytes (replicate (BLOCK_SIZE - length (front ++ bytes)) 0)))

pub added : (page page' front bytes : List ℕ) (at end k : ℕ) → end ≡ at + length bytes → k ≡ length bytes → page' ≡ put_mid at k page bytes → IsFront page front at → IsFront page' (front ++ bytes) end
added page page' front bytes at end k n e put f = record {
  bytes = put ∙ ap (λ (p : List ℕ). put_mid at k p bytes) f.bytes ∙ behind front bytes at k f.place e;
  place = omega (arith, n, f.place, length-append front bytes);
}

-- a loop that has written the first i things one behind the other
pub record Added {X : Type 0} (f : X → List ℕ) (xs : List X) (page : List ℕ) (at : ℕ) (now : List ℕ) (next i : ℕ) : Type 0 where
  pub place : next ≡ at + length (flat_map f (take i xs))
  pub bytes : (front : List ℕ) → IsFront page front at → IsFront now (front ++ flat_map f (take i xs)) next

pub none_added : {X : Type 0} (f : X → List ℕ) (xs : List X) (page : List ℕ) (at : ℕ) → Added f xs page at page at 0
none_added f xs page at = record { place = omega arith; bytes = λ front h. rw (append-nil front) h }

pub room_next : {X : Type 0} (f : X → List ℕ) (xs : List X) (page : List ℕ) (at : ℕ) (now : List ℕ) (next i : ℕ) (x : X) → Added f xs page at now next i → i < length xs → x ≡ get_or xs i x → at + length (flat_map f xs) ≤ BLOCK_SIZE → next + length (f x) ≤ BLOCK_SIZE
room_next {X = X} f xs page at now next i x w lt is room = omega (arith, length-flat_map-take f xs i x lt, w.place, ap (λ (z : X). length (f z)) is)

pub add_next : {X : Type 0} (f : X → List ℕ) (xs : List X) (page : List ℕ) (at : ℕ) (now : List ℕ) (next i : ℕ) (x : X) (now' : List ℕ) (next' : ℕ) → Added f xs page at now next i → i < length xs → x ≡ get_or xs i x
    → next' ≡ next + length (f x) → ((front : List ℕ) → IsFront now front next → IsFront now' (front ++ f x) next') → Added f xs page at now' next' (i + 1)
add_next f xs page at now next i x now' next' w lt is step put =
    let more : flat_map f (take (i + 1) xs) ≡ flat_map f (take i xs) ++ f x = rw (take_more xs i x lt, ← is) (sym (flat_map_more f [] (take i xs) x)) in
    record {
      place = rw (more, length-append) (omega (arith, w.place, step));
      bytes = λ front h. rw (more, ← append_assoc front (flat_map f (take i xs)) (f x)) (put (front ++ flat_map f (take i xs)) (w.bytes front h));
    }

pub all_added : {X : Type 0} (f : X → List ℕ) (xs : List X) (page : List ℕ) (at : ℕ) (now : List ℕ) (next i : ℕ) → Added f xs page at now next i → length xs ≤ i
    → (next ≡ at + length (flat_map f xs)) × ((front : List ℕ) → IsFront page front at → IsFront now (front ++ flat_map f xs) next)
all_added {X = X} f xs page at now next i w le =
    let all : take i xs ≡ xs = take_all i xs le in
    (w.place ∙ ap (λ (ys : List X). at + length (flat_map f ys)) all, λ front h. rw all at (w.bytes front h))

-- the same, where the bytes of the next thing were made before
pub add_made : {X : Type 0} (f : X → List ℕ) (xs : List X) (page : List ℕ) (at : ℕ) (now : List ℕ) (next i : ℕ) (x : X) (y now' : List ℕ) (next' : ℕ) → Added f xs page at now next i → i < length xs → x ≡ get_or xs i x → y ≡ f x
    → next' ≡ next + length y → ((front : List ℕ) → IsFront now front next → IsFront now' (front ++ y) next') → Added f xs page at now' next' (i + 1)
add_made f xs page at now next i x y now' next' w lt is made step put =
    add_next f xs page at now next i x now' next' w lt is (step ∙ ap (λ (z : List ℕ). next + length z) made) (λ front h. rw (← made) (put front h))
