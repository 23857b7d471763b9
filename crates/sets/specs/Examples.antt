-- Worked examples of the definitions of sets: each is computed. Assumes nothing.
use Rattle.std.specs.Prelude.{◌≡◌, refl, true, false, not, [], ◌∷◌}
use Rattle.sets.specs.Sets.{has, union, minus, meets, single, below, set_of, those, members, size, lowest, some, every, some_in, every_in}

-- 0xa0 is the set of 5 and 7
ex-has : has 0xa0 7 ≡ true
unfolding has
ex-has = refl

ex-has-not : has 0xa0 6 ≡ false
unfolding has
ex-has-not = refl

ex-union : union 0xaaaa_aaaa_aaaa_aaaa 0x5555_5555_5555_5555 ≡ 0xffff_ffff_ffff_ffff
ex-union = refl

ex-minus : minus 0xffff_ffff 0x8000_0001 ≡ 0x7fff_fffe
unfolding minus
ex-minus = refl

ex-meets : meets 0x8000_0000 0x7fff_ffff ≡ false
ex-meets = refl

ex-single : single 63 ≡ 0x8000_0000_0000_0000
ex-single = refl

ex_below : below 32 ≡ 0xffff_ffff
ex_below = refl

ex-set_of : set_of 32 (λ m. not (has 0xff m)) ≡ 0xffff_ff00
unfolding set_of has
ex-set_of = refl

ex-those : those 64 0xf0f0 (has 0xff00) ≡ 0xf000
unfolding those has
ex-those = refl

ex-members : members 64 0x8000_0000_0000_0012 ≡ 1 ∷ 4 ∷ 63 ∷ []
unfolding members
ex-members = refl

ex-size : size 64 0xffff_0000_ffff_0000 ≡ 32
unfolding size
ex-size = refl

ex_lowest : lowest 64 0x8000_0000_0000_0010 ≡ 4
unfolding lowest
ex_lowest = refl

-- the empty set has no lowest member, and neither has a set whose members are not looked at
ex_lowest_none : lowest 32 0 ≡ 32
unfolding lowest
ex_lowest_none = refl

ex_lowest_above : lowest 32 0x8000_0000_0000_0000 ≡ 32
unfolding lowest
ex_lowest_above = refl

-- no number is below 0
ex-some : some 0 (has 1) ≡ false
unfolding some
ex-some = refl

ex_every : every 8 (has 0xff) ≡ true
unfolding every has
ex_every = refl

ex-some_in : some_in 64 0xff00 (has 0x8000) ≡ true
unfolding some_in has
ex-some_in = refl

ex-every_in : every_in 32 0xff00 (has 0xff01) ≡ true
unfolding every_in has
ex-every_in = refl
