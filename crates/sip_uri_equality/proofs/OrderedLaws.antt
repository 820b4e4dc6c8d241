-- How the parts of two URIs decide whether they are equal.
use Rattle.std.proofs.Common.{◌≡◌, Bool, true, false, refl}
use Rattle.std.specs.Prelude.{◌&&◌}

-- the place, the parameters and the headers decide
pub by_place : (scheme user host port parameters headers : Bool) → (scheme && user && host && port) ≡ false
    → false ≡ (scheme && user && host && port && parameters && headers)
by_place true true true true parameters headers differ = absurd cc
by_place true true true false parameters headers differ = refl
by_place true true false port parameters headers differ = refl
by_place true false host port parameters headers differ = refl
by_place false user host port parameters headers differ = refl

pub by_parameters : (scheme user host port parameters headers : Bool) → (scheme && user && host && port) ≡ true → parameters ≡ false
    → false ≡ (scheme && user && host && port && parameters && headers)
by_parameters true true true true false headers same differ = refl
by_parameters true true true true true headers same differ = absurd cc
by_parameters true true true false parameters headers same differ = absurd cc
by_parameters true true false port parameters headers same differ = absurd cc
by_parameters true false host port parameters headers same differ = absurd cc
by_parameters false user host port parameters headers same differ = absurd cc

pub by_headers : (scheme user host port parameters headers : Bool) → (scheme && user && host && port) ≡ true → parameters ≡ true
    → headers ≡ (scheme && user && host && port && parameters && headers)
by_headers true true true true true headers same also = refl
by_headers true true true true false headers same also = absurd cc
by_headers true true true false parameters headers same also = absurd cc
by_headers true true false port parameters headers same also = absurd cc
by_headers true false host port parameters headers same also = absurd cc
by_headers false user host port parameters headers same also = absurd cc

-- a port, or a host, that differs decides alone
pub by_port : (scheme user host port : Bool) → port ≡ false → false ≡ (scheme && user && host && port)
by_port true true true port differ = rw differ refl
by_port true true false port differ = refl
by_port true false host port differ = refl
by_port false user host port differ = refl

pub by_host : (scheme user host port : Bool) → host ≡ false → false ≡ (scheme && user && host && port)
by_host true true host port differ = rw differ refl
by_host true false host port differ = refl
by_host false user host port differ = refl
