-- What the tests of a block say of the slot and the entry that are used.
use Rattle.std.proofs.Common.{◌≡◌, ℕ, ◌+◌, ◌-◌, ◌*◌, ◌<◌, ◌≤◌, Bool, true, cond, ltb, leb, ◌&&◌, length, inl, inr, Option, Some, None, refl, arith}
use Rattle.std.proofs.lemmas.List.Sums.{prefix_len-le-length}
use Rattle.std.proofs.lemmas.Bool.Decides.{nat_tests}
use Rattle.std.proofs.lemmas.Bool.{cases_Bool}
use Rattle.seg_base.specs.declared.limit.TheConstants.{BLOCK_ROOM, LIST_ENTRY_SIZE, MOST_LIST_ENTRIES, MOST_SLOTS}
use Rattle.seg_base.specs.Blocks.{Block}
use Rattle.seg_base.specs.Room.{free_of, slot_to_use, entry_for, entry_need, slot_need, has_room, takes, takes_beside}
use Rattle.seg_base.specs.declared.slot.Taker.{Taker}

pub slot_to_use-le-length : (ended : ℕ → Bool) (b : Block) → slot_to_use ended b ≤ length b.slots
slot_to_use-le-length ended b = prefix_len-le-length _ b.slots

same : (a b : ℕ) → Some a ≡ Some b → a ≡ b
same a b e = cc

made_within : (n i room : ℕ) → cond (ltb n MOST_LIST_ENTRIES && leb LIST_ENTRY_SIZE room) (Some n) None ≡ Some i → (i ≤ n) × (i < MOST_LIST_ENTRIES)
made_within n i room e = grind (arith, nat_tests)

other_within : (q n i room : ℕ) → n ≤ MOST_LIST_ENTRIES → cond (ltb q n) (Some q) (cond (ltb n MOST_LIST_ENTRIES && leb LIST_ENTRY_SIZE room) (Some n) None) ≡ Some i → (i ≤ n) × (i < MOST_LIST_ENTRIES)
other_within q n i room le e = elim (cases_Bool (ltb q n)) [
  | inl y ↦ (let k : q ≡ i = same q i (rw y at e) in let l : q < n = grind (arith, nat_tests) in (omega arith, omega arith))
  | inr f ↦ (let d : cond (ltb n MOST_LIST_ENTRIES && leb LIST_ENTRY_SIZE room) (Some n) None ≡ Some i = rw f at e in made_within n i room d)
]

own_within : (p q n i room : ℕ) → n ≤ MOST_LIST_ENTRIES → cond (ltb p n) (Some p) (cond (ltb q n) (Some q) (cond (ltb n MOST_LIST_ENTRIES && leb LIST_ENTRY_SIZE room) (Some n) None)) ≡ Some i → (i ≤ n) × (i < MOST_LIST_ENTRIES)
own_within p q n i room le e = elim (cases_Bool (ltb p n)) [
  | inl y ↦ (let k : p ≡ i = same p i (rw y at e) in let l : p < n = grind (arith, nat_tests) in (omega arith, omega arith))
  | inr f ↦ (let d : cond (ltb q n) (Some q) (cond (ltb n MOST_LIST_ENTRIES && leb LIST_ENTRY_SIZE room) (Some n) None) ≡ Some i = rw f at e in other_within q n i room le d)
]

-- the entry that a transaction uses is there, or is the next one
pub entry_for-within : (ended : ℕ → Bool) (b : Block) (t i : ℕ) → length b.entries ≤ MOST_LIST_ENTRIES → entry_for ended b t ≡ Some i → (i ≤ length b.entries) × (i < MOST_LIST_ENTRIES)
entry_for-within ended b t i le e = own_within _ _ _ _ _ le e

-- what a block that takes a row has left
pub record HasTaken (ended : ℕ → Bool) (pctfree : ℕ) (b : Block) (len : ℕ) (taker : Taker) : Type 0 where
  pub entry : ℕ
  pub entry_is : entry_need ended b taker ≡ Some entry
  pub slot : slot_to_use ended b < MOST_SLOTS
  pub room : len + slot_need ended b + entry ≤ free_of ended b
  pub left : pctfree * BLOCK_ROOM ≤ (free_of ended b - (len + slot_need ended b + entry)) * 100

room_is : (pctfree free need s : ℕ) → ltb s MOST_SLOTS && has_room pctfree free need ≡ true → (s < MOST_SLOTS) × (need ≤ free) × (pctfree * BLOCK_ROOM ≤ (free - need) * 100)
room_is pctfree free need s e = grind (arith, nat_tests)

beside : (ended : ℕ → Bool) (pctfree : ℕ) (b : Block) (len : ℕ) (taker : Taker) (o : Option ℕ) → entry_need ended b taker ≡ o → takes_beside ended pctfree b len o ≡ true → HasTaken ended pctfree b len taker
beside ended pctfree b len taker None e h = absurd cc
beside ended pctfree b len taker (Some n) e h =
    let k : (slot_to_use ended b < MOST_SLOTS) × (len + slot_need ended b + n ≤ free_of ended b) × (pctfree * BLOCK_ROOM ≤ (free_of ended b - (len + slot_need ended b + n)) * 100)
    = room_is pctfree (free_of ended b) (len + slot_need ended b + n) (slot_to_use ended b) h in
    record { entry = n; entry_is = e; slot = k.0; room = k.1; left = k.2 }

pub takes_is : (ended : ℕ → Bool) (pctfree : ℕ) (b : Block) (len : ℕ) (taker : Taker) → takes ended pctfree b len taker ≡ true → HasTaken ended pctfree b len taker
takes_is ended pctfree b len taker h = beside ended pctfree b len taker (entry_need ended b taker) refl h
