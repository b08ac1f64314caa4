-- A cache's value is stored as its limit and its terms.
use Rattle.std.specs.Prelude.{◌≡◌, ℕ, List, refl}
use Rattle.std.specs.Coded.{Coded, code_by, coded×, coded_ℕ, coded_list}
use Rattle.rowan_green.specs.Term.{Term}
use Rattle.rowan_green.specs.Coding.{coded_term}
use Rattle.rowan_builder.specs.Cache.{CacheValue}

abbrev cache_parts : CacheValue → ℕ × List Term
cache_parts c = (c.limit, c.seen)

abbrev cache_of : ℕ × List Term → CacheValue
cache_of p = record { limit = p.0; seen = p.1 }

pub cache_of-parts : (c : CacheValue) → cache_of (cache_parts c) ≡ c
cache_of-parts c = refl

abbrev pub coded_cache : Coded CacheValue
coded_cache =
    let parts = coded× coded_ℕ (coded_list coded_term) in
    code_by (ℕ × List Term) parts cache_parts cache_of cache_of-parts
