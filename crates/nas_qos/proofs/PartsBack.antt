-- Components that are written are read back.
use Rattle.std.proofs.Common.{◌≡◌, ◌<◌, ◌+◌, ℕ, true, List, ◌∷◌, ◌++◌, length, take, drop, nat_eq, nat_le, nat_lt, length-append, append_assoc, Some, sym, ◌∙◌, ap, arith, refl}
use Rattle.std.specs.List.{list_all}
use Rattle.std.specs.Result.{result_ok}
use Rattle.std.proofs.lemmas.Bool.Decides.{nat_tests}
use Rattle.std.proofs.lemmas.Grind.{common_steps}
use Rattle.byteorder.specs.Endian.{big_bytes, big_number}
use Rattle.byteorder.specs.Numbers.{big_number-reads_back, length-bytes_high_first}
use Rattle.nas_qos.specs.Parts.{first_part, is_part, is_parts, part_octets, part_of, part_size, parts_in, parts_octets, value_size}
use Rattle.nas_qos.specs.declared.part.Part.{Part}
use Rattle.nas_qos.specs.declared.part.Part.TheVariants.{All, Remote, Local, Protocol, LocalPort, RemotePort, LocalPorts, RemotePorts}
use Rattle.nas_qos.proofs.TurnsBack.{all_back, both}

-- a value of so many octets is there
there : (n : ℕ) (value rest : List ℕ) → length value ≡ n → nat_le n (length (value ++ rest)) ≡ true
there n value rest size =
    let sum : length (value ++ rest) ≡ length value + length rest = length-append value rest in grind (arith, nat_tests, sum, size)

front : (n : ℕ) (a b rest : List ℕ) → length a ≡ n → take n ((a ++ b) ++ rest) ≡ a
front n a b rest size = grind (arith, common_steps, size)

back : (n m : ℕ) (a b rest : List ℕ) → length a ≡ n → length b ≡ m → take m (drop n ((a ++ b) ++ rest)) ≡ b
back n m a b rest size_a size_b =
    let left : drop n ((a ++ b) ++ rest) ≡ b ++ rest = rw append_assoc (grind (arith, common_steps, size_a)) in
    rw left (grind (arith, common_steps, size_b))

two : (port : ℕ) → length (big_bytes 2 port) ≡ 2
two port = length-bytes_high_first 2 port

addresses : (kind : ℕ) (address mask rest : List ℕ) (part : List ℕ → List ℕ → Part) → value_size kind ≡ 8 → length address ≡ 4 → length mask ≡ 4
    → ((os : List ℕ) → part_of kind os ≡ Some (part (take 4 os) (take 4 (drop 4 os)))) → first_part (kind ∷ ((address ++ mask) ++ rest)) ≡ Some (part address mask)
addresses kind address mask rest part size size_a size_m is =
    let sum : length (address ++ mask) ≡ value_size kind = omega (arith, length-append address mask, size, size_a, size_m) in
    rw (there (value_size kind) (address ++ mask) rest sum)
    (is ((address ++ mask) ++ rest)
    ∙ ap (λ a. Some (part a (take 4 (drop 4 ((address ++ mask) ++ rest))))) (front 4 address mask rest size_a)
    ∙ ap (λ m. Some (part address m)) (back 4 4 address mask rest size_a size_m))

port_found : (kind port : ℕ) (rest : List ℕ) (part : ℕ → Part) → value_size kind ≡ 2 → port < 65536
    → ((os : List ℕ) → part_of kind os ≡ Some (part (big_number 2 os))) → first_part (kind ∷ (big_bytes 2 port ++ rest)) ≡ Some (part port)
port_found kind port rest part size fits is =
    rw (there (value_size kind) (big_bytes 2 port) rest (two port ∙ sym size))
    (is (big_bytes 2 port ++ rest) ∙ ap (λ p. Some (part p)) (big_number-reads_back 2 port rest fits))

ports_found : (kind low high : ℕ) (rest : List ℕ) (part : ℕ → ℕ → Part) → value_size kind ≡ 4 → low < 65536 → high < 65536
    → ((os : List ℕ) → part_of kind os ≡ Some (part (big_number 2 os) (big_number 2 (drop 2 os))))
    → first_part (kind ∷ ((big_bytes 2 low ++ big_bytes 2 high) ++ rest)) ≡ Some (part low high)
ports_found kind low high rest part size fits_low fits_high is =
    let sum : length (big_bytes 2 low ++ big_bytes 2 high) ≡ value_size kind = omega (arith, length-append (big_bytes 2 low) (big_bytes 2 high), size, two low, two high) in
    let whole : (big_bytes 2 low ++ big_bytes 2 high) ++ rest ≡ big_bytes 2 low ++ (big_bytes 2 high ++ rest) = append_assoc (big_bytes 2 low) (big_bytes 2 high) rest in
    let left : drop 2 ((big_bytes 2 low ++ big_bytes 2 high) ++ rest) ≡ big_bytes 2 high ++ rest = refl in
    rw (there (value_size kind) (big_bytes 2 low ++ big_bytes 2 high) rest sum)
    (is ((big_bytes 2 low ++ big_bytes 2 high) ++ rest)
    ∙ ap (λ p. Some (part p (big_number 2 (drop 2 ((big_bytes 2 low ++ big_bytes 2 high) ++ rest))))) (ap (big_number 2) whole ∙ big_number-reads_back 2 low (big_bytes 2 high ++ rest) fits_low)
    ∙ ap (λ p. Some (part low p)) (ap (big_number 2) left ∙ big_number-reads_back 2 high rest fits_high))

fits : (port : ℕ) → nat_lt port 65536 ≡ true → port < 65536
fits port h = grind (arith, nat_tests, h)

of_size : (n : ℕ) (xs : List ℕ) → nat_eq (length xs) n ≡ true → length xs ≡ n
of_size n xs h = grind (arith, nat_tests, h)

part_found : (part : Part) (rest : List ℕ) → is_part part ≡ true → first_part (part_octets part ++ rest) ≡ Some part
part_found All rest h = grind (arith, nat_tests)
part_found (Remote address mask) rest h =
    let parts = both (nat_eq (length address) 4) (nat_eq (length mask) 4) h in
    addresses 0x10 address mask rest (λ a m. Remote a m) refl (of_size 4 address parts.0) (of_size 4 mask parts.1) (λ os. refl)
part_found (Local address mask) rest h =
    let parts = both (nat_eq (length address) 4) (nat_eq (length mask) 4) h in
    addresses 0x11 address mask rest (λ a m. Local a m) refl (of_size 4 address parts.0) (of_size 4 mask parts.1) (λ os. refl)
part_found (Protocol protocol) rest h = grind (arith, nat_tests)
part_found (LocalPort port) rest h = port_found 0x40 port rest (λ p. LocalPort p) refl (fits port h) (λ os. refl)
part_found (RemotePort port) rest h = port_found 0x50 port rest (λ p. RemotePort p) refl (fits port h) (λ os. refl)
part_found (LocalPorts low high) rest h =
    let parts = both (nat_lt low 65536) (nat_lt high 65536) h in
    ports_found 0x41 low high rest (λ l u. LocalPorts l u) refl (fits low parts.0) (fits high parts.1) (λ os. refl)
part_found (RemotePorts low high) rest h =
    let parts = both (nat_lt low 65536) (nat_lt high 65536) h in
    ports_found 0x51 low high rest (λ l u. RemotePorts l u) refl (fits low parts.0) (fits high parts.1) (λ os. refl)

part_sized : (part : Part) (rest : List ℕ) → is_part part ≡ true → part_size (part_octets part ++ rest) ≡ length (part_octets part)
part_sized All rest h = refl
part_sized (Remote address mask) rest h =
    let parts = both (nat_eq (length address) 4) (nat_eq (length mask) 4) h in
    omega (arith, length-append address mask, of_size 4 address parts.0, of_size 4 mask parts.1)
part_sized (Local address mask) rest h =
    let parts = both (nat_eq (length address) 4) (nat_eq (length mask) 4) h in
    omega (arith, length-append address mask, of_size 4 address parts.0, of_size 4 mask parts.1)
part_sized (Protocol protocol) rest h = refl
part_sized (LocalPort port) rest h = refl
part_sized (RemotePort port) rest h = refl
part_sized (LocalPorts low high) rest h = refl
part_sized (RemotePorts low high) rest h = refl

pub part_some : (part : Part) → 0 < length (part_octets part)
part_some All = omega arith
part_some (Remote address mask) = omega arith
part_some (Local address mask) = omega arith
part_some (Protocol protocol) = omega arith
part_some (LocalPort port) = omega arith
part_some (RemotePort port) = omega arith
part_some (LocalPorts low high) = omega arith
part_some (RemotePorts low high) = omega arith

pub parts_back : (parts : List Part) → is_parts parts ≡ true → parts_in (parts_octets parts) ≡ Some parts
parts_back parts whole =
    let facts = both (list_all is_part parts) (nat_le (length (parts_octets parts)) 255) whole in
    ap result_ok
    (all_back (λ at os. first_part os) part_size part_octets is_part (length (parts_octets parts))
    (λ at part rest good within. record { found = part_found part rest good; sized = part_sized part rest good }) part_some parts (length (parts_octets parts)) 0 facts.0 (omega arith) (omega arith))

-- components that are written alike are the same
pub same_parts : (parts others : List Part) → is_parts parts ≡ true → is_parts others ≡ true → parts_octets parts ≡ parts_octets others → parts ≡ others
same_parts parts others whole right same =
    let one : Some parts ≡ Some others = sym (parts_back parts whole) ∙ ap parts_in same ∙ parts_back others right in cc
