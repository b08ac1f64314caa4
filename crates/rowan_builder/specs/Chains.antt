-- Chains of places by their hashes. A hash has a bucket. The places of one bucket are a chain, the
-- newest first.
use Rattle.std.specs.Prelude.{◌≡◌, ℕ, ◌-◌, ◌<◌, ◌≤◌, List, length, map, Option, Some, None, bit_and}
use Rattle.std.specs.Prelude.{refl}
use Rattle.std.specs.Coded.{Coded, code_by, coded×, coded_ℕ, coded_list}
use Rattle.std.specs.List.{slice_get}
use Rattle.rowan_builder.specs.declared.node_cache.chains.ChainLink.{ChainLink}
use Rattle.rowan_green.specs.Link.{link_limit}

-- what a contract sees of chains: the hash of each place, and how many buckets there are
pub record ChainsValue : Type 0 where
  pub hashes : List ℕ
  pub count : ℕ

-- the hashes of places, and the links to the older ones
abbrev pub hashes_of : List ChainLink → List ℕ
hashes_of ps = map (λ p. p.hash) ps

abbrev pub older_of : List ChainLink → List (Option ℕ)
older_of ps = map (λ p. p.older) ps

abbrev pub bucket : ℕ → ℕ → ℕ
bucket count hash = bit_and hash (count - 1)

-- the place is at or before this one
abbrev pub IsUpTo : ℕ → Option ℕ → Type 0
IsUpTo place None = ⊥
IsUpTo place (Some n) = place ≤ n

-- this is the last place before the bound at which this stands, a hash or a bucket, or none
pub record IsNewest (bs : List ℕ) (bound b : ℕ) (newest : Option ℕ) : Type 0 where
  pub stands : (n : ℕ) → newest ≡ Some n → (n < bound) × (slice_get bs n ≡ Some b)
  pub last : (n : ℕ) → n < bound → slice_get bs n ≡ Some b → IsUpTo n newest

-- each bucket has its newest place, and each place the newest older one of its bucket
pub record AreLinked (hashes : List ℕ) (newest older : List (Option ℕ)) : Type 0 where
  pub count : length older ≡ length hashes
  pub first : (b : ℕ) (o : Option ℕ) → slice_get newest b ≡ Some o
      → IsNewest (map (bucket (length newest)) hashes) (length hashes) b o
  pub rest : (n b : ℕ) (o : Option ℕ)
      → slice_get (map (bucket (length newest)) hashes) n ≡ Some b → slice_get older n ≡ Some o
      → IsNewest (map (bucket (length newest)) hashes) n b o

-- a chain goes on at one of the places or ends, and each link leads to an older place
pub record IsOnChain (hashes : List ℕ) (older : List (Option ℕ)) (next : Option ℕ) : Type 0 where
  pub count : length older ≡ length hashes
  pub within : (n : ℕ) → next ≡ Some n → n < length hashes
  pub falls : (n m : ℕ) → slice_get older n ≡ Some (Some m) → m < n

-- what the fields of chains keep: there are no fewer buckets than places, and the numbers of places
-- have 32 bits
pub record AreChains (hashes : List ℕ) (newest older : List (Option ℕ)) : Type 0 where
  pub linked : AreLinked hashes newest older
  pub room : length hashes ≤ length newest
  pub small : length hashes ≤ link_limit

abbrev chains_parts : ChainsValue → List ℕ × ℕ
chains_parts c = (c.hashes, c.count)

abbrev chains_of : List ℕ × ℕ → ChainsValue
chains_of p = record { hashes = p.0; count = p.1 }

pub chains_of-parts : (c : ChainsValue) → chains_of (chains_parts c) ≡ c
chains_of-parts c = refl

abbrev pub coded_chains : Coded ChainsValue
coded_chains =
    let parts = coded× (coded_list coded_ℕ) coded_ℕ in
    code_by (List ℕ × ℕ) parts chains_parts chains_of chains_of-parts
