-- For callers: the pools after a call, whatever it answered.
use Rattle.std.proofs.Common.{◌≡◌, ℕ, Option, Some, None, Result, Ok, Err, refl, sym, ap}
use Rattle.std.specs.Prelude.{option_map}
use Rattle.std.proofs.lemmas.Option.{same_Some}
use Rattle.nas_elements.specs.declared.address.Address.{Address}
use Rattle.nas_pools.specs.Pools.{Gives, PoolsParts, Takes, after_taking, freed, next_of, take_of}
use Rattle.nas_pools.specs.declared.refusals.Empty.{Empty}
use Rattle.nas_pools.specs.declared.refusals.NotTaken.{NotTaken}

-- `give` frees the address, or changes nothing
pub freed-by_give : (address : Address) (result : Result (Unit {0}) NotTaken) (old new : PoolsParts) → Gives address result old new → freed address old ≡ new
freed-by_give address (Ok done) old new h = rw h refl
freed-by_give address (Err refusal) old new h = rw h.0 (sym h.1)

-- `take` takes the next address, or nothing
pub after_taking-by_take : (kind : ℕ) (result : Result Address Empty) (old new : PoolsParts) → Takes kind result old new → after_taking kind old ≡ new
after_taking-by_take kind (Ok address) old new h = rw h refl
after_taking-by_take kind (Err refusal) old new h = rw h.0 (sym h.2)

taken_next_by : (kind : ℕ) (address : Address) (p : PoolsParts) (o : Option (Address × PoolsParts)) → take_of kind p ≡ o →
    option_map {U = Address} (λ taking. taking.0) o ≡ Some address → ◌≡◌ {A = Option (Address × PoolsParts)} (take_of kind p) (Some (address, after_taking kind p))
taken_next_by kind address p None is h = absurd (cc)
taken_next_by kind address p (Some taking) is h =
    let same : taking.0 ≡ address = same_Some taking.0 address h in
    rw is (ap (λ (a : Address). let t : Address × PoolsParts = (a, taking.1) in Some t) same)

-- what `next` answers is what is taken
pub take_of-next_of : (kind : ℕ) (address : Address) (p : PoolsParts) → next_of kind p ≡ Some address →
    ◌≡◌ {A = Option (Address × PoolsParts)} (take_of kind p) (Some (address, after_taking kind p))
take_of-next_of kind address p h = taken_next_by kind address p (take_of kind p) refl h
