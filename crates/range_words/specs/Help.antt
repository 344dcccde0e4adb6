-- The text of the command's help, and of its version.
use Rattle.std.specs.Prelude.{ℕ, List, ◌++◌, codes}
use Rattle.std.specs.Fmt.{decimal}
use Rattle.range_plane.specs.Fix.{fix_limit, second_limit}
use Rattle.range_plane.specs.Scale.{limit}
use Rattle.range_plane.specs.declared.scale.Scale.TheVariants.{Metre, Decimetre}
use Rattle.range_options.specs.Limits.{block_limit, depth_limit, file_limit, level_count_limit, level_limit, worker_limit}
use Rattle.range_words.specs.declared.defaults.TheConstants.{DEFAULT_BLOCK, DEFAULT_DEPTH, DEFAULT_LEVELS, DEFAULT_UNIT, DEFAULT_WORKERS}
use Rattle.range_words.specs.declared.version.TheConstants.{VERSION}

-- the help's first lines: what the program is for, and how it is called
abbrev pub about_text : List ℕ
about_text = codes "Home ranges of tagged animals by the minimum convex polygon, from files of\nlocation fixes. The report goes to standard output.\n\nUsage: homerange [--percent LIST] [--unit UNIT] [--block N] [--depth N]\n                 [--workers N] [FILE ...]\n\n"

-- the help on the files that are named
abbrev pub arguments_text : List ℕ
arguments_text = codes "Arguments:\n  [FILE]...  Files to read, " ++ (decimal file_limit ++ codes " at most, one animal in each; with none,\n             standard input\n\n")

-- the help on the option of the levels
abbrev pub levels_text : List ℕ
levels_text = codes "Options:\n      --percent <LIST>  Levels of the percent polygons: 1 to " ++ (decimal level_count_limit
    ++ (codes " whole numbers\n                        from 1 to " ++ (decimal level_limit
    ++ (codes ", separated by commas [default: " ++ (DEFAULT_LEVELS.now ++ codes "]\n")))))

-- the help on the option of the unit, and on those that ask for help and the version
abbrev pub unit_text : List ℕ
unit_text = codes "      --unit <UNIT>     Unit of all coordinates: m for metres, dm for decimetres\n                        [default: "
    ++ (DEFAULT_UNIT.now ++ codes "]\n  -h, --help            Print help\n  -V, --version         Print version\n\n")

-- the help on the options that change the report, and on those that ask
abbrev pub options_text : List ℕ
options_text = levels_text ++ unit_text

-- the help on an option that is a number and changes the time alone
abbrev pub number_text : List ℕ → ℕ → ℕ → List ℕ
number_text what limit default =
    codes "      --" ++ (what ++ (codes ", 1 to " ++ (decimal limit ++ (codes " [default: " ++ (decimal default ++ codes "]\n")))))

-- the help on the options that change the time alone
abbrev pub speed_text : List ℕ
speed_text = codes "Speed:\n" ++ (number_text (codes "block <N>    Fixes that are handed on together") block_limit DEFAULT_BLOCK
    ++ (number_text (codes "depth <N>    Blocks that may wait for each worker") depth_limit DEFAULT_DEPTH
    ++ (number_text (codes "workers <N>  Workers that estimate ranges") worker_limit DEFAULT_WORKERS
    ++ codes "\nBlock, depth and workers change the time taken, and not the report.\n\n")))

-- the help on the lines of a file
abbrev pub lines_text : List ℕ
lines_text = codes "Files:\n  A file is comma-separated text. Its first line is\n  animal,second,easting,northing and each line after it is one fix; there are 1\n  to "
    ++ (decimal fix_limit ++ codes " such lines. With the first line\n  animal,second,easting,northing,use each line says at its end whether its fix\n  is used.\n")

-- the help on the first two fields of a line: the animal and the second
abbrev pub name_and_time_text : List ℕ
name_and_time_text = codes "    animal    the animal's name, the same in the whole file and in no other file\n              of the run: 1 to 32 bytes, with no comma, double quote or control\n              character\n    second    when it was there: a whole second from 0 to "
    ++ (decimal second_limit ++ codes ",\n              which never falls\n")

-- the help on the limits of the coordinates, in metres and in decimetres
abbrev pub limits_text : List ℕ
limits_text = decimal (limit Metre) ++ (codes ", or with --unit dm whole decimetres from 0 to\n              " ++ (decimal (limit Decimetre) ++ codes "\n"))

-- the help on the other fields of a line, and how faults count records
abbrev pub coordinates_text : List ℕ
coordinates_text = codes "    easting   where it was, such as a UTM easting: whole metres from 0 to\n              " ++ (limits_text
    ++ codes "    northing  likewise; the fixes of a run have to be of one zone\n    use       1, or 0 for a fix that is left out; at least one has to be used\n  Faults count records from the line below the first, blank lines left out.\n\n")

-- the help on what a file is
abbrev pub files_text : List ℕ
files_text = lines_text ++ (name_and_time_text ++ coordinates_text)

-- the help's last lines: what the report is, percent polygons, an example, and the status
abbrev pub end_text : List ℕ
end_text = codes "Report:\n  unit,dm\n      the first line, with --unit dm alone\n  animal,NAME,fixes,N\n      an animal, and how many fixes it has\n  box,NAME,minE,minN,maxE,maxN\n      the least and the greatest easting and northing\n  row,NAME,n,second,corners,area2\n      the range of the first n fixes, for each n: the second of fix n, and the\n      corners and doubled area of the polygon\n  corner,NAME,i,easting,northing\n      the corners of the polygon of all fixes, counterclockwise from the\n      westernmost\n  percent,NAME,level,kept,corners,area2\n      the polygon of the fixes that a level keeps\n  overlap,A,B,count,fixes\n      how many of the fixes of A lie in the polygon of B, edges included, and\n      how many fixes A has\n  end,ANIMALS\n      the last line: how many animals there are\n  The lines of each animal come together, in the order of the files, and then\n  the overlaps. area2 is twice the area in square metres: divide it by 2, or by\n  20000 for hectares. With --unit dm it is twice the area in square decimetres:\n  divide it by 2000000 for hectares.\n\nPercent polygons:\n  Of n fixes level p keeps the (p*n + 99)/100 nearest to the mean of all fixes,\n  division cutting off; of fixes at one distance the earlier in the file goes\n  first. The polygon is that of those.\n\nExample:\n  homerange --percent 50,95 fox.csv badger.csv > report.csv\n\nExit status:\n  0  the report, or this help or the version, was written\n  1  a file cannot be opened or read, or is not as above; or two files have the\n     same animal\n  2  the words of the command line are refused\n  3  there is not enough memory\n  4  the output cannot be written\n  5  the fixes of a file were not all handed on from its reader to its worker\nWith a status from 1 to 5, one line on standard error says why, unless the\nreader of the output has gone.\n"

-- the whole help
abbrev pub help_text : List ℕ
help_text = about_text ++ (arguments_text ++ (options_text ++ (speed_text ++ (files_text ++ end_text))))

-- the version, which is the project's and the logic's
abbrev pub version_text : List ℕ
version_text = codes "homerange " ++ (VERSION.now ++ codes "\n")
