-- A source and a sink in memory at named values, and rules in order.
use Rattle.std.proofs.Common.{◌≡◌, ℕ, zero, suc, ◌^◌, ◌-◌, true, false, refl, List, [], ◌∷◌, Result}
use Rattle.std.proofs.Common.{Ok, Err}
use Rattle.spf_io.specs.Memory.{MemoryRead, MemoryPut, next_number, given, is_failing, is_refused}
use Rattle.spf_io.specs.Rule.{each, many}

-- four bytes, the cuts 1 and 0, and the third read failing
source : ℕ → List ℕ → MemoryRead
source reads left =
    record { left = left; cuts = 1 ∷ 0 ∷ []; failing = 3 ∷ []; reads = reads; failures = 0 }

first_cut : given (source 0 (1 ∷ 2 ∷ 3 ∷ 4 ∷ [])) 8 ≡ 1
unfolding source
first_cut = refl

cut_of_zero : given (source 1 (2 ∷ 3 ∷ 4 ∷ [])) 8 ≡ 1
unfolding source
cut_of_zero = refl

third_fails : is_failing (source 2 (3 ∷ 4 ∷ [])).failing (next_number 2) ≡ true
unfolding source
third_fails = refl

fourth_goes_on : is_failing (source 3 (3 ∷ 4 ∷ [])).failing (next_number 3) ≡ false
unfolding source
fourth_goes_on = refl

after_the_cuts : given (source 3 (3 ∷ 4 ∷ [])) 8 ≡ 2
unfolding source
after_the_cuts = refl

small_buffer : given (source 3 (3 ∷ 4 ∷ [])) 1 ≡ 1
unfolding source
small_buffer = refl

at_the_end : given (source 4 []) 8 ≡ 0
unfolding source
at_the_end = refl

-- room for three bytes, and the second put failing
sink : ℕ → List ℕ → MemoryPut
sink puts held = record { held = held; room = 3; failing = 2 ∷ []; puts = puts; failures = 0 }

fits : is_refused (sink 0 []) 2 ≡ false
unfolding sink
fits = refl

second_fails : is_refused (sink 1 (97 ∷ 98 ∷ [])) 1 ≡ true
unfolding sink
second_fails = refl

no_room : is_refused (sink 2 (97 ∷ 98 ∷ [])) 2 ≡ true
unfolding sink
no_room = refl

last_of_the_room : is_refused (sink 3 (97 ∷ 98 ∷ [])) 1 ≡ false
unfolding sink
last_of_the_room = refl

-- a count stops at its end
last_number : next_number (2 ^ 64 - 1) ≡ 2 ^ 64 - 1
last_number = refl

-- a rule for each member: the first that is broken decides
small : ℕ → Result ℕ ℕ
small zero = Err 7
small (suc n) = Ok n

all_answer : each small (1 ∷ 2 ∷ []) ≡ Ok (0 ∷ 1 ∷ [])
unfolding small
all_answer = refl

first_broken : each small (1 ∷ 0 ∷ 2 ∷ []) ≡ Err 7
unfolding small
first_broken = refl

-- pieces of one octet
octet : List ℕ → Result (ℕ × List ℕ) ℕ
octet [] = Err 7
octet (b ∷ bytes) = Ok (b, bytes)

as_many_as_allowed : many octet 9 2 (1 ∷ 2 ∷ []) ≡ Ok (1 ∷ 2 ∷ [])
unfolding octet
as_many_as_allowed = refl

one_too_many : many octet 9 2 (1 ∷ 2 ∷ 3 ∷ []) ≡ Err 9
unfolding octet
one_too_many = refl
